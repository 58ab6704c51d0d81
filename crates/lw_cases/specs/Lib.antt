pub mod Certified
pub mod Values
