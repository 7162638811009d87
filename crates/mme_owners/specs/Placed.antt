-- Where subscribers are, and strangers that wait, as the associations have it.
use Rattle.std.specs.Prelude.{◌≡◌, ℕ, ◌==◌, ◌&&◌, if◌then◌else◌, is_some, not, List, [], ◌∷◌, Option, Some, None}
use Rattle.identity_slots.specs.Ids.{number_in, station_in}
use Rattle.association_table.specs.declared.association.Association.{Association}
use Rattle.mme_tables.specs.Whereabouts.{ConnectionTable, waits_at, NoneWaits}
use Rattle.mme_types.specs.declared.connection.Connection.{Connection}
use Rattle.emm_machine.specs.SubscriberView.{SubscriberView}
use Rattle.stranger_machine.specs.declared.state.Stranger.{Stranger}
use Rattle.stranger_machine.specs.declared.state.Stranger.TheVariants.{Waiting, Held}
use Rattle.stranger_machine.specs.declared.table.Known.{Known}
use Rattle.stranger_machine.specs.Table.{stranger_at}
use Rattle.mme_tables.specs.Waiting.{wait_at}
use Rattle.mme_owners.specs.SteppedView.{SteppedView}
use Rattle.mme_owners.specs.Touched.{all_whereabouts, Has}

-- where a stranger is whose id that is: the id is made of its station and its eNB UE S1AP ID
abbrev pub own_place : ℕ → Connection
own_place id = record { id = id; station = station_in id; enb_ue_id = number_in id }

-- and the stranger with it, if it waits
abbrev pub place_in_state : ℕ → Stranger → Option Connection
place_in_state id (Waiting kept left repeats) = Some (own_place id)
place_in_state id (Held slot) = None

abbrev pub place_if : ℕ → Option Stranger → Option Connection
place_if id None = None
place_if id (Some s) = place_in_state id s

abbrev pub place_at : ℕ → List Known → Option Connection
place_at id ks = place_if id (stranger_at id ks)

-- a place with the id
abbrev pub IsOn : ℕ → Option Connection → Type 0
IsOn id o = (k : Connection) → o ≡ Some k → k.id ≡ id

-- no two subscribers have one id, and none has that of a stranger that waits
pub record AreApart (ks : List Known) (ws : List SubscriberView) : Type 0 where
  pub two : (i j : ℕ) (k l : Connection) → Has ws i k → Has ws j l → k.id ≡ l.id → i ≡ j
  pub waiting : (i : ℕ) (k : Connection) → Has ws i k → place_at k.id ks ≡ None

-- no stranger waits on the id of the connection that was prepared, if one was
abbrev pub NoneWaitsIf : Option SteppedView → List Association → Type 0
NoneWaitsIf None es = Unit {0}
NoneWaitsIf (Some x) es = NoneWaits x.solo.connection es

-- what always holds: the associations are the connections of the subscribers, and the places of the strangers that wait
pub record ArePlaced (ks : List Known) (ws : List SubscriberView) (t : ConnectionTable) : Type 0 where
  pub phones : t.whereabouts ≡ all_whereabouts ws
  pub strangers : (id : ℕ) → waits_at id t.associations ≡ place_at id ks

-- where one is that waited before, once those of some ids who wait no longer have lost their places
abbrev pub still_there : List ℕ → List Known → ℕ → Option Connection → Option Connection
still_there [] ks id o = o
still_there (i ∷ ids) ks id o = still_there ids ks id (if i == id && not (is_some (wait_at i ks)) then None else o)
