pub mod Bisimulation
pub mod Quotient
pub mod Laws
pub mod Private
