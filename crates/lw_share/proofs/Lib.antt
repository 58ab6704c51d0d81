mod UnfoldedLines
mod CollectedSets
mod CitedLines
mod PremiseSets
mod HeldLines
mod TableVerdicts
mod GrownTables
mod PutSteps
mod PooledSteps
mod PooledSubproofs
mod WholeProofs
mod AscendingNumbers
mod FormsUnder
mod KeyedSets
mod KeyedLines
pub mod CountedSets
