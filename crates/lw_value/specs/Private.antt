pub mod ValueCode
pub mod KeptWeight
pub mod LighterItems
pub mod LengthsLeft
pub mod Likeness
pub mod TextsLeft
