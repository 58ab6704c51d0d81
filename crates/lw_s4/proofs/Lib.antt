pub mod KeptNus
pub mod HistoryServed
pub mod HistoryRanking
