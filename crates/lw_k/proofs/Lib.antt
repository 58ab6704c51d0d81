pub mod ComponentDepths
pub mod KRanking
