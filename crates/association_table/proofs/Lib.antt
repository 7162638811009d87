pub mod Entries
pub mod Stations
pub mod Matched
