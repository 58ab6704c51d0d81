pub mod ListTests
pub mod TruthTest
pub mod SameFormulas
pub mod ListMembers
pub mod SubformulaLists
pub mod RevaluedModels
pub mod OneWorldModels
pub mod ByteOrder
