pub mod Values
pub mod Certified
pub mod Views
pub mod Evidence
pub mod ValueTexts
pub mod Assignments
pub mod Laws
pub mod Private
