pub mod TruthTables
pub mod NormalFormTruth
pub mod NormalSubformulas
pub mod SimplifiedFormulas
