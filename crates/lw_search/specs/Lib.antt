pub mod Step
pub mod Ranked
pub mod Explored
pub mod Outcome
pub mod Private
