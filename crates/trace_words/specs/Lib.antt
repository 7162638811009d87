pub mod Fields
pub mod Trace
pub mod Lines
pub mod WordLaws
pub mod Rooms
pub mod Kept
pub mod Script
