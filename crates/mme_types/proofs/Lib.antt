pub mod Digits
pub mod Labels
