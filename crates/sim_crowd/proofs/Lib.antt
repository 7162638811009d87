pub mod Places
pub mod Entries
pub mod Numbers
pub mod Indexes
