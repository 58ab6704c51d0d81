pub mod Interpolant
pub mod Maehara
pub mod Laws
pub mod Pooled
pub mod InterpFaults
pub mod Private
