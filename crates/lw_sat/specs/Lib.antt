pub mod Sets
pub mod Closing
pub mod Moves
pub mod SeedPath
pub mod Saturated
pub mod Course
pub mod Private
