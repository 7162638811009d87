pub mod Answered
pub mod LooseValues
pub mod PartPlaces
pub mod Restored
pub mod Resumed
pub mod Values
