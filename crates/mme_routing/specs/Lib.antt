pub mod Destinations
pub mod Outcome
pub mod Outcomes
pub mod Resets
pub mod Seen
pub mod Naming
