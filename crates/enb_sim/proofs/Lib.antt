mod Bearers
mod Sizes
pub mod Fitting
