pub mod Asked
pub mod Calls
pub mod Codecs
pub mod Ownership
pub mod Places
pub mod Snapshots
pub mod Texts
