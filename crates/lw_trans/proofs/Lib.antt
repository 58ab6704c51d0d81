pub mod FirstConnectives
pub mod ForcingModels
pub mod ReflexiveModels
