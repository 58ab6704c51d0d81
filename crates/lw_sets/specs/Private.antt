-- Words that private contracts and proofs alone use.
pub mod KeptIds
pub mod Companions
