-- No two phones of an MME share an association's id: the id of each connection is its slot's own, or that of a stranger whom this
-- slot holds, at the station and number that the id is made of.
use Rattle.std.specs.Prelude.{◌≡◌, ◌⊎◌, ◌≤◌, ℕ, List, [], length, Option, Some, None, slice_get}
use Rattle.sorted_list.specs.Ordered.{Rising}
use Rattle.identity_slots.specs.declared.profile.Profile.{Profile}
use Rattle.identity_slots.specs.Ids.{slots}
use Rattle.mme_types.specs.declared.connection.Connection.{Connection}
use Rattle.emm_machine.specs.SubscriberView.{SubscriberView}
use Rattle.stranger_machine.specs.declared.state.KeptEntry.{KeptEntry}
use Rattle.stranger_machine.specs.declared.state.Stranger.{Stranger}
use Rattle.stranger_machine.specs.declared.state.Stranger.TheVariants.{Waiting, Held}
use Rattle.stranger_machine.specs.declared.table.Known.{Known}
use Rattle.stranger_machine.specs.Table.{known_id, stranger_at}
use Rattle.mme_owners.specs.Subscribers.{each_after}
pub use Rattle.mme_owners.specs.Touched.{Has}
use Rattle.mme_routing.specs.Destinations.{Destination, item_at, strangers_left}
use Rattle.laws_apart.specs.Alone.{IsOfStranger, IsOwn, WaitsMade}
use Rattle.laws_apart.specs.Goes.{GoesMade}

-- ---- the ids of strangers and subscribers

-- it is the slot's, or a stranger's whom the slot holds
abbrev pub IsApart : (ℕ → Option Stranger) → ℕ → Connection → Type 0
IsApart strangers slot k = IsOwn slot k.id ⊎ (IsOfStranger k × (strangers k.id ≡ Some (Held slot)))

abbrev pub by_id : List Known → ℕ → Option Stranger
by_id ks id = stranger_at id ks

-- each subscriber has the slot of its place
abbrev pub AreNumbered : List SubscriberView → Type 0
AreNumbered ws = (slot : ℕ) (x : SubscriberView) → slice_get ws slot ≡ Some x → x.setting.slot ≡ slot

-- that there is a slot for each subscriber, that each has its own, and that the strangers' ids rise, always holds
pub record IdsApart (ks : List Known) (ws : List SubscriberView) : Type 0 where
  pub few : length ws ≤ slots
  pub numbered : AreNumbered ws
  pub rising : Rising known_id ks
  pub waiting : (id : ℕ) → WaitsMade id (stranger_at id ks)
  pub apart : (slot : ℕ) (x : SubscriberView) (k : Connection) → slice_get ws slot ≡ Some x → x.solo.connection ≡ Some k
      → IsApart (by_id ks) slot k

-- it is so where nobody is connected and there is no stranger
abbrev pub BeginsApart : Type 0
BeginsApart =
    (ws : List SubscriberView) → length ws ≤ slots → AreNumbered ws
    → ((slot : ℕ) (x : SubscriberView) → slice_get ws slot ≡ Some x → x.solo.connection ≡ None) → IdsApart [] ws

-- and stays so at each event
abbrev pub StaysApart : Type 0
StaysApart =
    (ps : List Profile) (d : Destination) (ks : List Known) (ws : List SubscriberView) → GoesMade d → IdsApart ks ws
    → IdsApart (strangers_left ps d ks) (each_after (item_at d ps (by_id ks)) 0 ws)

-- ---- what follows

-- no two slots have one id
abbrev pub NoTwoShare : Type 0
NoTwoShare =
    (ks : List Known) (ws : List SubscriberView) (slot other : ℕ) (k l : Connection) → IdsApart ks ws → Has ws slot k
    → Has ws other l → k.id ≡ l.id → slot ≡ other

-- and none has that of a stranger that waits
abbrev pub NoneHasWaiting : Type 0
NoneHasWaiting =
    (ks : List Known) (ws : List SubscriberView) (slot : ℕ) (k : Connection) (kept : KeptEntry) (left repeats : ℕ) → IdsApart ks ws
    → Has ws slot k → stranger_at k.id ks ≡ Some (Waiting kept left repeats) → ⊥
