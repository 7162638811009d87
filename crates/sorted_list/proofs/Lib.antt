pub mod Flat
pub mod Weight
pub mod Pairs
pub mod Parts
