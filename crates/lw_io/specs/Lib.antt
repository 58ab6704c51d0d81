pub mod Causes
pub mod Files
pub mod Output
pub mod Memory
pub mod Private
