pub mod Arguments
pub mod Asked
pub mod Kept
pub mod Lines
pub mod Live
pub mod Refusals
pub mod Sessions
pub mod Texts
