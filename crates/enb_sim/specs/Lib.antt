pub mod Profile
pub mod Ranges
pub mod Sending
pub mod Delivering
pub mod View
