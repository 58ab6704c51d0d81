pub mod Families
pub mod Counts
pub mod Laws
