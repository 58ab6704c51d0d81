-- Words that private contracts and proofs alone use.
pub mod LastRow
pub mod ClosedPremises
pub mod GrownBoards
pub mod LabelWork
pub mod RoundEnds
pub mod FoldedStates
