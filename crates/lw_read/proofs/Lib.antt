mod TokenSteps
mod MachineAccepts
mod MachineSound
pub mod TokenByToken
pub mod StackedConstructs
mod NameTests
mod FirstFaults
mod SpelledFormulas
mod LexemeSteps
mod TokenTexts
mod TokensByRule
mod PrintedTokens
pub mod FaultPlaces
mod FaultlessTexts
mod LetterNames
mod TextLengths
mod PrinterPieces
