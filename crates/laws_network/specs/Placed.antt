-- Where phones are: connections are at stations that are set up, and so are strangers; paging goes to stations that are set up and
-- broadcast the phone's tracking area (TS 36.413 clauses 8.5, 8.7.3).
use Rattle.std.specs.Prelude.{◌≡◌, ◌<◌, ℕ, Bool, true, false, List, All, AllPairs, Option, Some, None}
use Rattle.sorted_list.specs.Ordered.{Every}
use Rattle.s1ap_elements.specs.declared.phone.Tai.{Tai}
use Rattle.identity_slots.specs.Ids.{station_in}
use Rattle.identity_slots.specs.Provisioned.{Provisioned}
use Rattle.mme_types.specs.declared.connection.Connection.{Connection}
use Rattle.mme_types.specs.declared.stations.StationState.{StationState}
use Rattle.mme_types.specs.declared.stations.StationState.TheVariants.{Down, Up, Ready}
use Rattle.mme_types.specs.Stations.{station_at}
use Rattle.emm_state.specs.declared.solo.Repeat.{Repeat}
use Rattle.emm_state.specs.declared.solo.Repeat.TheVariants as repeats
use Rattle.emm_state.specs.declared.solo.Solo.{Solo}
use Rattle.emm_machine.specs.Idle.{listens}
use Rattle.emm_machine.specs.SubscriberView.{SubscriberView}
use Rattle.stranger_machine.specs.declared.state.Stranger.{Stranger}
use Rattle.stranger_machine.specs.declared.state.Stranger.TheVariants.{Waiting, Held}
use Rattle.stranger_machine.specs.declared.table.Known.{Known}
use Rattle.mme_core.specs.declared.config.Config.{Config}
use Rattle.mme_core.specs.declared.event.Event.{Event}
use Rattle.mme_core.specs.World.{World, fresh_world, world_run}

-- ---- stations

-- it is set up (TS 36.413 clause 8.7.3)
abbrev pub is_ready : StationState → Bool
is_ready Down = false
is_ready Up = false
is_ready (Ready tas) = true

-- it is connected, set up or not
abbrev pub is_connected : StationState → Bool
is_connected Down = false
is_connected Up = true
is_connected (Ready tas) = true

abbrev pub IsReady : List StationState → ℕ → Type 0
IsReady stations e = is_ready (station_at stations e) ≡ true

abbrev pub IsConnected : List StationState → ℕ → Type 0
IsConnected stations e = is_connected (station_at stations e) ≡ true

-- it is set up and broadcasts the tracking area
abbrev pub Listens : List StationState → Tai → ℕ → Type 0
Listens stations tai e = listens tai (station_at stations e) ≡ true

-- ---- one subscriber

-- its connection is at a station that is set up
abbrev pub IsAtReady : List StationState → Option Connection → Type 0
IsAtReady stations None = Unit {0}
IsAtReady stations (Some k) = IsReady stations k.station

-- each of these stations is set up and broadcasts the tracking area, and none stands twice
pub record AreListening (stations : List StationState) (tai : Tai) (es : List ℕ) : Type 0 where
  pub all : All (Listens stations tai) es
  pub once : AllPairs ◌<◌ es

-- the paging to be sent again goes to such stations
abbrev pub IsPagedThere : List StationState → Tai → Option Repeat → Type 0
IsPagedThere stations tai (Some (repeats.Paging es)) = AreListening stations tai es
IsPagedThere stations tai _ = Unit {0}

pub record IsPlaced (stations : List StationState) (solo : Solo) : Type 0 where
  pub connected : IsAtReady stations solo.connection
  pub paged : IsPagedThere stations solo.tai solo.repeat

-- ---- one stranger

-- one that waits is at a station that is set up, which is the one in its id
abbrev pub IsAtOwn : ℕ → Stranger → Type 0
IsAtOwn id (Waiting k left repeats) = k.station ≡ station_in id
IsAtOwn id (Held slot) = Unit {0}

-- and so is one that is held
pub record IsStrangerPlaced (stations : List StationState) (k : Known) : Type 0 where
  pub own : IsAtOwn k.id k.stranger
  pub ready : IsReady stations (station_in k.id)

-- ---- the MME

abbrev pub IsViewPlaced : List StationState → SubscriberView → Type 0
IsViewPlaced stations x = IsPlaced stations x.solo

pub record AllPlaced (w : World) : Type 0 where
  pub subscribers : Every (IsViewPlaced w.sight.stations) w.subscribers
  pub strangers : Every (IsStrangerPlaced w.sight.stations) w.strangers

-- an MME begins so
abbrev pub BeginsPlaced : Type 0
BeginsPlaced = (config : Config) (p : Provisioned) → AllPlaced (fresh_world config p)

-- and stays so over every list of events, whatever octets stations send
abbrev pub StaysPlaced : Type 0
StaysPlaced = (w : World) (events : List Event) → AllPlaced w → AllPlaced (world_run w events)
