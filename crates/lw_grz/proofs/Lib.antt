pub mod GuardsServed
pub mod GuardedPis
pub mod GrzRanking
