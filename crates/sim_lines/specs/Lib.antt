pub mod Turns
pub mod Plays
pub mod Events
pub mod Faults
pub mod Further
-- crates below, passed on with all of their definitions
pub use Rattle.sim_printing.specs as sim_printing
