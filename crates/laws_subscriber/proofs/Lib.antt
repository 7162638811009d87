pub mod Standing
pub mod ConnectionSteps
pub mod Forms
pub mod Saying
pub mod SoundRows
pub mod SoundRuns
pub mod Leaving
pub mod Parts
pub mod PartRows
pub mod ProofRuns
mod Clocked
mod Ticking
mod Ending
mod Strangers
mod Silent
