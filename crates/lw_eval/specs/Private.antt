pub mod Given
pub mod Sizes
pub mod Remaining
pub mod Carried
