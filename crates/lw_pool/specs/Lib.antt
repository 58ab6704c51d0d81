pub mod Region
pub mod Walk
pub mod Private
