-- Words that private contracts and proofs alone use.
pub mod PremiseLists
pub mod SetKeys
pub mod SharedSteps
pub mod SharedSubproofs
