pub mod Idle
pub mod Connected
