pub mod Network
pub mod Stations
pub mod Answers
pub mod Carrying
pub mod Listed
pub mod Events
pub mod Pdus
-- crates below, passed on with all of their definitions
pub use Rattle.s1ap_pdus.specs as s1ap_pdus
pub use Rattle.s1ap_pdus.specs.per_streams as per_streams
pub use Rattle.s1ap_pdus.specs.s1ap_elements as s1ap_elements
pub use Rattle.s1ap_pdus.specs.s1ap_causes as s1ap_causes
