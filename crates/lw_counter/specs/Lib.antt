pub mod Fragment
pub mod FragmentPaths
pub mod Open
pub mod Countermodel
pub mod Laws
pub mod Answers
pub mod Private
