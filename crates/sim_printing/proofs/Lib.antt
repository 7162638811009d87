pub mod Played
pub mod Shown
