pub mod ModelAdditions
pub mod BoundGrowth
pub mod CoveredPairs
pub mod FrameTests
pub mod ListGaps
pub mod RowsEndToEnd
pub mod TruthRows
