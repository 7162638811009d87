mod Challenges
mod Connections
mod Work
mod Wire
mod Bidding
mod Plain
mod ProceduresLast
mod StrangersWait
pub mod SentByTouched
pub mod Turns
pub mod OwnersAlone
pub mod StationsAlone
pub mod Guards
pub mod SameStranger
pub mod SameStation
pub mod EventByEvent
mod EndingWorlds
pub mod IdRuns
pub mod Reached
mod Counters
mod TmsisApart
mod Left
mod Unseen
mod KeyOrder
mod Holding
mod KeyActions
mod KeyRows
mod KeyRuns
mod KeysOfMme
mod KeysOfMessage
pub mod LooksAtAttach
pub mod LooksAtServing
pub mod Looks
pub mod ActsKept
pub mod ActOnce
pub mod SlotAtAct
mod ActsAlone
pub mod GivenAfter
pub mod GivenEarly
mod GivenFresh
mod ActByAct
mod Calls
pub mod Husks
pub mod Remembering
mod RememberedKept
mod Late
mod Longer
mod Stretches
mod Accepted
mod FreshOver
mod GuardedOver
mod ProvedOver
mod EndsOver
mod KeysOver
mod ActsLaws
