pub mod Short
pub mod Sending
pub mod Settled
pub mod Prepares
pub mod InUse
pub mod Laws
