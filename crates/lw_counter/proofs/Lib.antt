pub mod EdgePaths
pub mod Countermodels
pub mod FragmentFormulas
pub mod WellFormedFragments
pub mod FragmentChanges
pub mod BitSquares
pub mod EdgeSquares
pub mod GrownModels
