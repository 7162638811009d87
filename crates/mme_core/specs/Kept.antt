-- What always holds of an MME.
use Rattle.std.specs.Prelude.{◌≡◌, ℕ, List, length, map, Some}
use Rattle.sorted_list.specs.Ordered.{Every, Rising}
use Rattle.identity_slots.specs.declared.profile.Profile.{Profile}
use Rattle.identity_slots.specs.declared.profile.Vector.{Vector}
use Rattle.identity_slots.specs.Provisioned.{Provisioned}
use Rattle.mme_types.specs.declared.network.Network.{Network}
use Rattle.emm_machine.specs.SubscriberView.{SubscriberView}
use Rattle.stranger_machine.specs.declared.table.Known.{Known}
use Rattle.stranger_machine.specs.Table.{known_id}
use Rattle.laws_subscriber.specs.Strangers.{IsTimed}
use Rattle.mme_core.specs.declared.config.Config.{Config}
use Rattle.mme_core.specs.declared.event.Event.{Event}
use Rattle.mme_core.specs.FreshRuns.{AreInUse}
use Rattle.mme_core.specs.Provisioning.{world_added, world_given}
use Rattle.mme_core.specs.World.{World, fresh_world, world_run}

-- a stranger that waits for its identity has ticks of T3470 left
abbrev pub IsKnownTimed : Known → Type 0
IsKnownTimed k = IsTimed (Some k.stranger)

abbrev pub profile_of : SubscriberView → Profile
profile_of x = x.setting.profile

abbrev pub HasNetwork : Network → SubscriberView → Type 0
HasNetwork n x = x.setting.network ≡ n

pub record IsKept (w : World) : Type 0 where
  -- a state for each of 128 stations
  pub stations : length w.sight.stations ≡ 128
  -- each stranger once, by its id
  pub rising : Rising known_id w.strangers
  pub timed : Every IsKnownTimed w.strangers
  -- the contexts, the counts and the countdowns of each subscriber
  pub in_use : AreInUse w.subscribers
  -- one for each who is provisioned
  pub provisioned : length w.subscribers ≡ length w.sight.profiles
  -- with its profile, and in the MME's network
  pub profiles : map profile_of w.subscribers ≡ w.sight.profiles
  pub networks : Every (HasNetwork w.sight.config.network) w.subscribers

-- an MME begins so
abbrev pub BeginsKept : Type 0
BeginsKept = (config : Config) (p : Provisioned) → IsKept (fresh_world config p)

-- and stays so over every list of events, whatever octets stations send
abbrev pub StaysKept : Type 0
StaysKept = (w : World) (events : List Event) → IsKept w → IsKept (world_run w events)

-- with a vector more for a slot, and with a subscriber more
abbrev pub GivenStaysKept : Type 0
GivenStaysKept = (w : World) (slot : ℕ) (v : Vector) → IsKept w → IsKept (world_given slot v w)

abbrev pub AddedStaysKept : Type 0
AddedStaysKept = (w : World) (p : Profile) → IsKept w → IsKept (world_added p w)
