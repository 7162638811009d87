-- What of an MME goes into messages is in range: what it is given, its strangers and its subscribers.
use Rattle.std.specs.Prelude.{◌≡◌, ℕ, ◌≤◌, length, Option, Some, slice_get}
use Rattle.std.specs.List.{AllByRecursion}
use Rattle.sorted_list.specs.Ordered.{Rising}
use Rattle.identity_slots.specs.declared.profile.Profile.{Profile}
use Rattle.identity_slots.specs.declared.profile.Vector.{Vector}
use Rattle.identity_slots.specs.Ids.{slots}
use Rattle.identity_slots.specs.Provisioned.{Provisioned, vectors_at}
use Rattle.mme_types.specs.Events.{Claim}
use Rattle.emm_machine.specs.SubscriberView.{SubscriberView}
use Rattle.stranger_machine.specs.declared.state.Stranger.{Stranger}
use Rattle.stranger_machine.specs.declared.state.Stranger.TheVariants.{Waiting}
use Rattle.stranger_machine.specs.Table.{known_id}
use Rattle.stranger_machine.specs.Turns.{as_entry}
use Rattle.mme_core.specs.declared.config.Config.{Config}
use Rattle.mme_core.specs.World.{World, strangers_in}
use Rattle.laws_network.specs.Ranges.{NetworkInRange, ProfileInRange, VectorInRange}
use Rattle.laws_network.specs.SubscriberRanges.{ItemInRange, SettingInRange, SoloInRange}

-- ---- what it is given

-- the network, each subscriber's profile and vectors, and a slot for each. In the code it is so by the types, as
-- `provisioned_is_in_range` says.
pub record IsProvisionedInRange (config : Config) (p : Provisioned) : Type 0 where
  pub network : NetworkInRange config.network
  pub few : length p.profiles ≤ slots
  pub profiles : (slot : ℕ) (x : Profile) → slice_get p.profiles slot ≡ Some x → ProfileInRange x
  pub vectors : (slot place : ℕ) (v : Vector) → slice_get (vectors_at slot p.vectors) place ≡ Some v → VectorInRange v

-- ---- strangers

-- one that waits, by its id: what it would claim with (TS 36.413 clauses 9.2.3.3, 9.1.7.1)
abbrev pub StrangerInRange : ℕ → Option Stranger → Type 0
StrangerInRange id (Some (Waiting k left repeats)) = ItemInRange (Claim id (as_entry k))
StrangerInRange id _ = Unit {0}

abbrev pub AreStrangersInRange : (ℕ → Option Stranger) → Type 0
AreStrangersInRange g = (id : ℕ) → StrangerInRange id (g id)

-- ---- subscribers

-- what never changes of one, and its state
pub record SubscriberInRange (x : SubscriberView) : Type 0 where
  pub setting : SettingInRange x.setting
  pub solo : SoloInRange x.solo

-- ---- the MME

-- that there are 128 stations, and that the strangers' ids rise, always holds
pub record WorldInRange (w : World) : Type 0 where
  pub network : NetworkInRange w.sight.config.network
  pub stations : length w.sight.stations ≡ 128
  pub rising : Rising known_id w.strangers
  pub strangers : AreStrangersInRange (strangers_in w)
  pub subscribers : AllByRecursion SubscriberInRange w.subscribers
