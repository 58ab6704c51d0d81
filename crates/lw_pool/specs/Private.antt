-- Words that private contracts and proofs alone use.
pub mod NodeRegion
pub mod IdWalk
pub mod Substituted
