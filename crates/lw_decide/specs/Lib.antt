pub mod Decided
pub mod Fault
