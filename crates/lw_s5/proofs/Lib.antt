pub mod ItemLists
pub mod DecidedLabels
pub mod ChildSeeds
pub mod RootFragments
