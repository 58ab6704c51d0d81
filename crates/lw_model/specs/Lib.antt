pub mod Edits
pub mod Bounds
pub mod Private
