pub mod Causes
pub mod Sessions
pub mod Reading
pub mod Sent
pub mod Requests
pub mod Reactions
pub mod Laws
