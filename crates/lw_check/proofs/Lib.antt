pub mod WalkOutcomes
pub mod Verdicts
