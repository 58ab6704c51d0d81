pub mod GrownPools
pub mod SetMembers
pub mod KeptMembers
