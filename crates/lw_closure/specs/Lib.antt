pub mod Mapping
pub mod Table
pub mod Items
pub mod Unclosed
pub mod Keeps
pub mod Fault
pub mod Laws
pub mod Private
