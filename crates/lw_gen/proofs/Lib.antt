pub mod BinaryDigits
pub mod SmallFamilies
pub mod SummedCounts
pub mod ChainModels
pub mod EndlessPaths
pub mod ValidFamilies
