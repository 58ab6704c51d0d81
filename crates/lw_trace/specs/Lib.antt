pub mod Heights
pub mod LetterlessTruth
pub mod LetterlessForm
pub mod TraceFaults
pub mod Laws
pub mod Private
