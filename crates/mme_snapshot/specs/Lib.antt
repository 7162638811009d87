pub mod Images
pub mod Restored
pub mod Buildings
pub mod Saved
pub mod Stored
