-- Each owner alone over a list of events, of an MME whose strangers' ids rise, as they do in every one (`well_kept`): what it is
-- told at each event, and what it becomes.
use Rattle.std.specs.Prelude.{◌≡◌, ◌<◌, ℕ, List, length, Some, None, slice_get}
use Rattle.sorted_list.specs.Ordered.{Rising}
use Rattle.mme_types.specs.Events.{Item}
use Rattle.mme_types.specs.Stations.{station_at}
use Rattle.emm_machine.specs.SubscriberView.{SubscriberView}
use Rattle.stranger_machine.specs.Table.{known_id, stranger_at}
use Rattle.mme_core.specs.declared.event.Event.{Event}
use Rattle.mme_core.specs.Projection.{AllInOrder, is_slot, is_station, is_stranger, projection, silence, states_along, states_run, station_run, station_told, stranger_run, stranger_told, subscriber_told, told}
use Rattle.mme_core.specs.World.{World, replies, strangers_in, world_run}

-- ---- a slot

-- the items that a list of events has for a slot
abbrev pub own_items : ℕ → World → List Event → List Item
own_items slot w events = projection slot w.sight (strangers_in w) events

-- it is told what its machine sends
abbrev pub SlotIsTold : Type 0
SlotIsTold =
    (w : World) (events : List Event) (slot : ℕ) (x : SubscriberView) → Rising known_id w.strangers
    → slice_get w.subscribers slot ≡ Some x
    → told (is_slot slot) (replies w events) ≡ subscriber_told x (own_items slot w events)

-- and is in its machine's states after each event
abbrev pub SlotGoesThroughStates : Type 0
SlotGoesThroughStates =
    (w : World) (events : List Event) (slot : ℕ) (x : SubscriberView) → Rising known_id w.strangers
    → slice_get w.subscribers slot ≡ Some x
    → states_along slot w events ≡ states_run x (own_items slot w events)

-- who isn't provisioned is told nothing
abbrev pub NobodyIsTold : Type 0
NobodyIsTold =
    (w : World) (events : List Event) (slot : ℕ) → Rising known_id w.strangers → slice_get w.subscribers slot ≡ None
    → told (is_slot slot) (replies w events) ≡ silence events

-- ---- a stranger

-- it is told what its machine sends
abbrev pub StrangerIsTold : Type 0
StrangerIsTold =
    (w : World) (events : List Event) (id : ℕ) → Rising known_id w.strangers
    → told (is_stranger id) (replies w events) ≡ stranger_told w.sight id (stranger_at id w.strangers) events

-- and is as its machine leaves it
abbrev pub StrangerGoesAlone : Type 0
StrangerGoesAlone =
    (w : World) (events : List Event) (id : ℕ) → Rising known_id w.strangers
    → stranger_at id (world_run w events).strangers ≡ stranger_run w.sight id (stranger_at id w.strangers) events

-- ---- a station

-- it is told what its own events lead to
abbrev pub StationIsTold : Type 0
StationIsTold =
    (w : World) (events : List Event) (e : ℕ) → Rising known_id w.strangers
    → told (is_station e) (replies w events) ≡ station_told w.sight e events

-- and is in the state that they leave
abbrev pub StationGoesAlone : Type 0
StationGoesAlone =
    (w : World) (events : List Event) (e : ℕ) → e < length w.sight.stations
    → station_at (world_run w events).sight.stations e ≡ station_run w.sight e (station_at w.sight.stations e) events

-- ---- all of them

-- each reply is in the order of its owners; no message is of anybody else, by the type of an owner
abbrev pub RepliesAreInOrder : Type 0
RepliesAreInOrder = (w : World) (events : List Event) → Rising known_id w.strangers → AllInOrder (replies w events)
