pub mod IdSets
pub mod Private
