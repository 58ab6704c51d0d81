-- Words that private contracts and proofs alone use.
pub mod LabelLack
pub mod StepUse
pub mod StepAskers
pub mod SearchWorlds
pub mod SearchLevels
pub mod SearchTurns
pub mod SearchTableau
