-- Words that private contracts and proofs alone use.
pub mod OrderedRows
pub mod PairCover
pub mod TruthTable
