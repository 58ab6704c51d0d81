pub mod Judgement
pub mod Private
