pub mod MapEntries
pub mod WrittenPieces
