-- Words that private contracts and proofs alone use.
pub mod NumberedForms
pub mod GuardNumbers
pub mod TableEntries
