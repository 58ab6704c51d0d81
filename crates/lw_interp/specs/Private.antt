-- Words that private contracts and proofs alone use.
pub mod SideLists
pub mod ReadSteps
pub mod ReadingWalk
