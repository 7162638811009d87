pub mod Timers
pub mod KeySets
pub mod Phases
pub mod Does
pub mod Actions
pub mod Forgetting
pub mod Taking
pub mod TakingLaws
