-- Words that private contracts and proofs alone use.
pub mod LineWriting
pub mod LineMachine
pub mod StageViews
pub mod RowReading
