pub mod Causes
pub mod Hearing
pub mod Messages
-- the S1AP messages
pub use Rattle.mme_types.specs.Pdus
