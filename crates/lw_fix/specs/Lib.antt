pub mod Outermost
pub mod FixedPoint
pub mod FixFaults
pub mod Laws
pub mod Private
