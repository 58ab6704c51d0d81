-- Words that private contracts and proofs alone use.
pub mod FormulaMachine
pub mod ReaderViews
pub mod TextMeasures
pub mod PrinterPieces
