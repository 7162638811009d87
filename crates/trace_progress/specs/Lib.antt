pub mod Effects
pub mod Text
pub mod Faults
pub mod Acts
pub mod Stopping
pub mod TextLaws
pub mod KnownLaws
pub mod StoppingLaws
pub mod FrontLaws
pub mod Replies
-- what is written of an event's messages
pub use Rattle.trace_answers.specs.Words
