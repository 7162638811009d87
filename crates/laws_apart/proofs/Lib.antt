pub mod Alone
pub mod Turning
pub mod Octets
pub mod Apart
pub mod Found
