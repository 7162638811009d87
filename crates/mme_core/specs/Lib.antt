pub mod Sight
pub mod World
pub mod Provisioning
pub mod Remembered
pub mod Quiet
pub mod Ready
pub mod Projection
pub mod FreshRuns
pub mod GuardedRuns
pub mod EndingRuns
pub mod Kept
pub mod Apart
pub mod Laws
pub mod Faults
-- crates below, passed on with all of their definitions
pub use Rattle.mme_answering.specs as mme_answering
