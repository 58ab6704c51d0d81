pub mod RowStack
pub mod Private
