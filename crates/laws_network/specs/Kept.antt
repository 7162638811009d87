-- How much an MME keeps for a phone.
use Rattle.std.specs.Prelude.{◌≡◌, ◌≤◌, ℕ, List, length, slice_get, Option, Some, None}
use Rattle.identity_slots.specs.Provisioned.{Provisioned}
use Rattle.emm_state.specs.declared.solo.Repeat.{Repeat}
use Rattle.emm_state.specs.declared.solo.Repeat.TheVariants as repeats
use Rattle.emm_machine.specs.SubscriberView.{SubscriberView}
use Rattle.mme_core.specs.declared.config.Config.{Config}
use Rattle.mme_core.specs.declared.event.Event.{Event}
use Rattle.mme_core.specs.World.{fresh_world, world_run}
use Rattle.laws_network.specs.WorldRanges.{IsProvisionedInRange}

-- a NAS message of at most 1,000 octets, or at most 128 stations
abbrev pub IsLittle : Option Repeat → Type 0
IsLittle None = Unit {0}
IsLittle (Some (repeats.Nas protection nas)) = length nas ≤ 1000
IsLittle (Some (repeats.Paging stations)) = length stations ≤ 128

-- each subscriber after a list of events; that what is provisioned is in range holds by the types
abbrev pub PhonesKeepLittle : Type 0
PhonesKeepLittle =
    (config : Config) (p : Provisioned) (events : List Event) (slot : ℕ) (x : SubscriberView)
    → IsProvisionedInRange config p → slice_get (world_run (fresh_world config p) events).subscribers slot ≡ Some x
    → IsLittle x.solo.repeat
