pub mod Heard
pub mod FitActions
pub mod FitRows
pub mod Whole
pub mod RowsWhole
pub mod Listing
pub mod Sent
pub mod Ranged
pub mod Each
pub mod Routed
pub mod Turned
pub mod Along
pub mod Begun
pub mod PlacedSteps
pub mod PlacedTurns
pub mod Routing
pub mod PlacedWorlds
mod Garbage
mod PageMessages
mod PagedOnce
mod Paged
mod Areas
mod SentByMachines
mod Outcomes
mod SentAtEvents
mod Kept
mod Associated
mod Said
mod Overwritten
