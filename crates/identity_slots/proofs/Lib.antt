mod Imsis
pub mod Places
pub mod Forgetting
pub mod Windows
pub mod HistoryValues
