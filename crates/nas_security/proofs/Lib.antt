pub mod Estimates
pub mod Parts
pub mod Accepted
