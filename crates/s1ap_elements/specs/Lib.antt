pub mod Ids
pub mod Formats
pub mod Stations
pub mod Phones
pub mod Resets
pub mod Bearers
pub mod BearerLaws
pub mod ListLaws
pub mod PhoneLaws
pub mod ResetLaws
pub mod StationLaws
-- crates below, passed on with all of their definitions
pub use Rattle.s1ap_causes.specs as s1ap_causes
