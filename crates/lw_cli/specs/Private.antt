-- Words that private contracts and proofs alone use.
pub mod AskedWords
pub mod CheckSteps
pub mod ReportSteps
