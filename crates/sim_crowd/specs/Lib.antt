pub mod Items
pub mod Index
pub mod Whereabouts
pub mod Sites
pub mod Stations
pub mod Handsets
pub mod Phones
pub mod Uplinks
pub mod Crowds
pub mod Acting
pub mod Hearing
pub mod Refused
-- crates below, passed on with all of their definitions
pub use Rattle.sim_phone.specs as sim_phone
pub use Rattle.enb_sim.specs as enb_sim
