-- Words that private contracts and proofs alone use.
pub mod Rounds
pub mod Classes
pub mod Joined
