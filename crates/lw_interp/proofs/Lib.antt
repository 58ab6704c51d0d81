pub mod SidePieces
pub mod StepInterpolants
pub mod ReadInterpolants
pub mod ShapedProofs
pub mod PutSides
pub mod ReadPremises
pub mod WalkSteps
pub mod WalkTurns
