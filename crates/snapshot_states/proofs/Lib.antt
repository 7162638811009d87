pub mod Fitting
pub mod Sound
mod Failing
