pub mod Translations
pub mod Connectives
pub mod Intuitionistic
pub mod Laws
pub mod Private
