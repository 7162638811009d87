pub mod Profile
pub mod Typed
pub mod Pdus
-- crates below, passed on with all of their definitions
pub use Rattle.per_streams.specs as per_streams
pub use Rattle.s1ap_elements.specs as s1ap_elements
pub use Rattle.s1ap_elements.specs.s1ap_causes as s1ap_causes
