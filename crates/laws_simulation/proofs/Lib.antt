mod IdentityOctets
mod MacOctets
mod GivenLaws
mod PlainMessages
mod ProtectedForms
mod HeardOctets
mod PhoneAsking
mod PhoneAnswering
pub mod PhoneMoves
mod SmallParts
mod StationMessages
pub mod StationActs
pub mod StationAnswers
pub mod Places
pub mod Lines
pub mod Names
pub mod MessageLines
pub mod Played
pub mod Owners
pub mod BegunRuns
pub mod SlotLines
pub mod StationLines
pub mod StrangerLines
pub mod Two
pub mod Commented
