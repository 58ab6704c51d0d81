pub mod NegationNormalForm
pub mod Simplification
pub mod Laws
pub mod Private
