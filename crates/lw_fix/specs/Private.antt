-- Words that private contracts and proofs alone use.
pub mod OutermostIds
pub mod Images
pub mod Solved
