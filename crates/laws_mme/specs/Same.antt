-- What is the same to a stranger and to a station.
use Rattle.std.specs.Prelude.{◌≡◌, ◌<◌, ℕ, ◌==◌, Bool, true, false, List, [], ◌∷◌, filter, length, map, Option, Some, None}
use Rattle.identity_slots.specs.declared.profile.Profile.{Profile}
use Rattle.sorted_list.specs.Ordered.{Rising}
use Rattle.mme_types.specs.Stations.{station_at}
use Rattle.stranger_machine.specs.declared.state.Stranger.{Stranger}
use Rattle.stranger_machine.specs.Machine.{Input, Nothing}
use Rattle.stranger_machine.specs.Table.{known_id, stranger_at}
use Rattle.mme_core.specs.declared.event.Event.{Event}
use Rattle.mme_core.specs.declared.event.Event.TheVariants.{Up, Lost, In, Tick, Data, Cancel}
use Rattle.mme_core.specs.Laws.{in_order}
use Rattle.mme_core.specs.Projection.{is_station, is_stranger, station_run, station_told, stranger_input, stranger_run, stranger_told, told}
use Rattle.mme_core.specs.Sight.{Sight}
use Rattle.mme_core.specs.World.{World, replies, sight_after, station_of, world_run}

-- ---- a stranger

-- what reaches a stranger over a list of events
abbrev pub inputs_along : Sight → ℕ → List Event → List Input
inputs_along s id [] = []
inputs_along s id (event ∷ events) = stranger_input s id event ∷ inputs_along (sight_after s event) id events

abbrev pub is_some_input : Input → Bool
is_some_input Nothing = false
is_some_input _ = true

-- without what is nothing
abbrev pub busy_inputs : List Input → List Input
busy_inputs inputs = filter is_some_input inputs

-- two lists of events that are the same to a stranger, where the same subscribers are provisioned, tell its machine the same, and
-- leave it the same
abbrev pub SameToStranger : Type 0
SameToStranger =
    (id : ℕ) (s t : Sight) (x : Option Stranger) (es ds : List Event) → s.profiles ≡ t.profiles
    → busy_inputs (inputs_along s id es) ≡ busy_inputs (inputs_along t id ds)
    → (in_order (stranger_told s id x es) ≡ in_order (stranger_told t id x ds)) × (stranger_run s id x es ≡ stranger_run t id x ds)

-- and so two MMEs that have the same stranger there
abbrev pub SameStrangerFromMme : Type 0
SameStrangerFromMme =
    (id : ℕ) (w v : World) (es ds : List Event) → Rising known_id w.strangers → Rising known_id v.strangers
    → w.sight.profiles ≡ v.sight.profiles → stranger_at id w.strangers ≡ stranger_at id v.strangers
    → busy_inputs (inputs_along w.sight id es) ≡ busy_inputs (inputs_along v.sight id ds)
    → (in_order (told (is_stranger id) (replies w es)) ≡ in_order (told (is_stranger id) (replies v ds)))
    × (stranger_at id (world_run w es).strangers ≡ stranger_at id (world_run v ds).strangers)

-- ---- a station

-- an event without the place in memory that its octets are lent from
abbrev pub unplaced : Event → Event
unplaced (Up e) = Up e
unplaced (Lost e) = Lost e
unplaced (In e octets) = In e (record { ref_ptr = (0, 0); now = octets.now })
unplaced Tick = Tick
unplaced (Data imsi) = Data imsi
unplaced (Cancel imsi) = Cancel imsi

abbrev pub is_number : ℕ → Option ℕ → Bool
is_number e None = false
is_number e (Some n) = n == e

-- the events of a station among a list
abbrev pub events_of : ℕ → List Event → List Event
events_of e events = map unplaced (filter (λ event. is_number e (station_of event)) events)

-- the same to a station: the network, who is provisioned, and its own state
pub record IsSameStation (e : ℕ) (s t : Sight) : Type 0 where
  pub network : s.config.network ≡ t.config.network
  pub profiles : s.profiles ≡ t.profiles
  pub state : station_at s.stations e ≡ station_at t.stations e
  pub there : e < length s.stations
  pub there_too : e < length t.stations

-- two lists with the same events of a station tell it the same, and leave it in the same state
abbrev pub SameToStation : Type 0
SameToStation =
    (e : ℕ) (s t : Sight) (es ds : List Event) → IsSameStation e s t → events_of e es ≡ events_of e ds
    → (in_order (station_told s e es) ≡ in_order (station_told t e ds))
    × (station_run s e (station_at s.stations e) es ≡ station_run t e (station_at t.stations e) ds)

-- and so two MMEs
abbrev pub SameStationFromMme : Type 0
SameStationFromMme =
    (e : ℕ) (w v : World) (es ds : List Event) → Rising known_id w.strangers → Rising known_id v.strangers
    → IsSameStation e w.sight v.sight → events_of e es ≡ events_of e ds
    → (in_order (told (is_station e) (replies w es)) ≡ in_order (told (is_station e) (replies v ds)))
    × (station_at (world_run w es).sight.stations e ≡ station_at (world_run v ds).sight.stations e)
