pub mod Rank
pub mod Countdowns
pub mod Queued
