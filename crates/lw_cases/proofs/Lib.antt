pub mod Accepted
pub mod Fragments
pub mod LiveTables
pub mod Sheets
pub mod WrittenValues
