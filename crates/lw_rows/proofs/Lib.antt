mod WordBits
mod RowPlaces
mod StoredRows
pub mod LastRow
