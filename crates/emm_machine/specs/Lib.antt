pub mod Messages
pub mod Steps
pub mod Still
pub mod SubscriberView
pub mod Words
pub mod Ticks
pub mod TickLaws
pub mod Freshness
pub mod Laws
pub mod Forgetting
pub mod Given
-- what the rows do, for those who stand on the machine alone
pub use Rattle.emm_uplink.specs.Attaching
pub use Rattle.emm_network.specs.Connected
pub use Rattle.emm_network.specs.Idle
pub use Rattle.emm_uplink.specs.Serving
