-- No two subscribers have one IPv4 address.
use Rattle.std.specs.Prelude.{◌≡◌, ℕ, List, Some, slice_get}
use Rattle.identity_slots.specs.Provisioned.{AreDistinct, Provisioned, address_key}
use Rattle.emm_machine.specs.SubscriberView.{SubscriberView}
use Rattle.mme_core.specs.declared.config.Config.{Config}
use Rattle.mme_core.specs.declared.event.Event.{Event}
use Rattle.mme_core.specs.World.{World, fresh_world, world_run}

-- the address of a subscriber, which its default bearer is activated with (TS 24.301 clause 6.4.1.2)
pub record IsAddressed (w : World) (slot : ℕ) (address : List ℕ) : Type 0 where
  pub subscriber : SubscriberView
  pub there : slice_get w.subscribers slot ≡ Some subscriber
  pub addressed : subscriber.setting.profile.address ≡ address

-- no two have one, where no two are provisioned with one, as a provisioning takes care of
abbrev pub NoTwoHaveOneAddress : Type 0
NoTwoHaveOneAddress =
    (config : Config) (p : Provisioned) (events : List Event) (slot other : ℕ) (address : List ℕ)
    → AreDistinct address_key p.profiles
    → IsAddressed (world_run (fresh_world config p) events) slot address
    → IsAddressed (world_run (fresh_world config p) events) other address → slot ≡ other
