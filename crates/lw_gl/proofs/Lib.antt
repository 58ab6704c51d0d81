pub mod GlRanking
