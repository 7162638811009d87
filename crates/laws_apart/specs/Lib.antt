pub mod Alone
pub mod Goes
pub mod Apart
pub mod Associations
