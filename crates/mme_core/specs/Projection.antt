-- Each owner alone: what of a list of events is a station's, a stranger's or a slot's, and what its machine sends over it.
use Rattle.std.specs.Prelude.{◌≤◌, ℕ, ◌==◌, Bool, false, List, [], ◌∷◌, map, filter, Option, Some, None, Result, Ok, Err, slice_get, option_map, unwrap_or, if◌then◌else◌}
use Rattle.mme_types.specs.declared.octets.Answer.{Answer}
use Rattle.mme_types.specs.declared.stations.StationState.{StationState}
use Rattle.mme_types.specs.Events.{Item, Nothing}
use Rattle.emm_machine.specs.Steps.{solo_after, solo_answers}
use Rattle.emm_machine.specs.declared.subscriber.States.{States}
use Rattle.emm_machine.specs.SubscriberView.{SubscriberView}
use Rattle.emm_machine.specs.Words.{states_of}
use Rattle.stranger_machine.specs.declared.state.Stranger.{Stranger as StrangerState}
use Rattle.stranger_machine.specs.Machine.{Input, stranger_step}
use Rattle.stranger_machine.specs.Machine as inputs
use Rattle.mme_routing.specs.Destinations.{input_for}
use Rattle.mme_core.specs.declared.event.Event.{Event}
use Rattle.mme_core.specs.declared.event.StepFault.{StepFault}
use Rattle.mme_answering.specs.declared.out.Out.{Out}
use Rattle.mme_answering.specs.declared.out.Owner.{Owner}
use Rattle.mme_answering.specs.declared.out.Owner.TheVariants.{Station, Stranger, Subscriber}
use Rattle.mme_core.specs.Sight.{Sight}
use Rattle.mme_core.specs.World.{World, event_fault, happens, items_of, sight_after, station_of, subscriber_after, unless, world_after}

-- ---- one stranger

-- what reaches the stranger with the id at an event
abbrev pub stranger_input : Sight → ℕ → Event → Input
stranger_input s id event = unless (event_fault s event) inputs.Nothing (input_for (happens s event).destination id)

-- the strangers after an event, each by its own machine
abbrev pub strangers_after : Sight → (ℕ → Option StrangerState) → Event → ℕ → Option StrangerState
strangers_after s g event id = (stranger_step s.profiles id (g id) (stranger_input s id event)).stranger

-- one stranger over a list of events
abbrev pub stranger_run : Sight → ℕ → Option StrangerState → List Event → Option StrangerState
stranger_run s id x [] = x
stranger_run s id x (event ∷ events) =
    stranger_run (sight_after s event) id (stranger_step s.profiles id x (stranger_input s id event)).stranger events

-- ---- one subscriber

-- the item of a slot at an event, by what every owner may see and by the strangers
abbrev pub item_for : ℕ → Sight → (ℕ → Option StrangerState) → Event → Item
item_for slot s g event = unless (event_fault s event) Nothing (items_of s g event slot)

-- the items of a slot over a list, one for each event: by the list, the configuration and the provisioning alone, and by the
-- strangers, who are so too
abbrev pub projection : ℕ → Sight → (ℕ → Option StrangerState) → List Event → List Item
projection slot s g [] = []
projection slot s g (event ∷ events) =
    item_for slot s g event ∷ projection slot (sight_after s event) (strangers_after s g event) events

-- ---- what of an output is an owner's

abbrev pub is_station : ℕ → Owner → Bool
is_station e (Station n) = n == e
is_station e (Stranger id) = false
is_station e (Subscriber slot) = false

abbrev pub is_stranger : ℕ → Owner → Bool
is_stranger id (Station e) = false
is_stranger id (Stranger n) = n == id
is_stranger id (Subscriber slot) = false

abbrev pub is_slot : ℕ → Owner → Bool
is_slot slot (Station e) = false
is_slot slot (Stranger id) = false
is_slot slot (Subscriber n) = n == slot

-- a message by its station and its octets
pub record Told : Type 0 where
  pub station : ℕ
  pub octets : List ℕ

abbrev pub told_of : Out → Told
told_of o = record { station = o.station; octets = o.octets }

abbrev pub owned_by : (Owner → Bool) → List Out → List Told
owned_by own outs = map told_of (filter (λ o. own o.owner) outs)

abbrev pub told_in : (Owner → Bool) → Result (List Out) StepFault → List Told
told_in own (Ok outs) = owned_by own outs
told_in own (Err fault) = []

-- what an owner is told over a list of replies, by reply
abbrev pub told : (Owner → Bool) → List (Result (List Out) StepFault) → List (List Told)
told own [] = []
told own (r ∷ rs) = told_in own r ∷ told own rs

abbrev pub answer_told : Answer → Told
answer_told a = record { station = a.station; octets = a.octets }

-- ---- what each owner's machine sends, by event

abbrev pub subscriber_told : SubscriberView → List Item → List (List Told)
subscriber_told w items = map (λ sent. map answer_told sent) (solo_answers w.setting w.solo items)

-- a subscriber after its machine has run over items
abbrev pub alone_after : SubscriberView → List Item → SubscriberView
alone_after w items = record { setting = w.setting; solo = solo_after w.setting w.solo items }

abbrev pub stranger_told : Sight → ℕ → Option StrangerState → List Event → List (List Told)
stranger_told s id x [] = []
stranger_told s id x (event ∷ events) =
    map answer_told (stranger_step s.profiles id x (stranger_input s id event)).sent
    ∷ stranger_told (sight_after s event) id (stranger_step s.profiles id x (stranger_input s id event)).stranger events

-- what a station is told of its own
abbrev pub own_told : Option ℕ → ℕ → List Answer → List Told
own_told None e sent = []
own_told (Some n) e sent = if n == e then map answer_told sent else []

abbrev pub station_told : Sight → ℕ → List Event → List (List Told)
station_told s e [] = []
station_told s e (event ∷ events) =
    unless (event_fault s event) [] (own_told (station_of event) e (happens s event).sent)
    ∷ station_told (sight_after s event) e events

-- nothing at each event
abbrev pub silence : List Event → List (List Told)
silence [] = []
silence (event ∷ events) = [] ∷ silence events

-- ---- the owners of an output, in their order

-- stations by number, then strangers by id, that is by station and eNB UE S1AP ID, then subscribers by slot
abbrev pub IsInOrder : Owner → Owner → Type 0
IsInOrder (Station a) (Station b) = a ≤ b
IsInOrder (Station a) (Stranger b) = Unit {0}
IsInOrder (Station a) (Subscriber b) = Unit {0}
IsInOrder (Stranger a) (Station b) = ⊥
IsInOrder (Stranger a) (Stranger b) = a ≤ b
IsInOrder (Stranger a) (Subscriber b) = Unit {0}
IsInOrder (Subscriber a) (Station b) = ⊥
IsInOrder (Subscriber a) (Stranger b) = ⊥
IsInOrder (Subscriber a) (Subscriber b) = a ≤ b

abbrev pub AllFrom : Owner → List Out → Type 0
AllFrom owner [] = Unit {0}
AllFrom owner (o ∷ os) = IsInOrder owner o.owner × AllFrom owner os

abbrev pub AreInOrder : List Out → Type 0
AreInOrder [] = Unit {0}
AreInOrder (o ∷ os) = AllFrom o.owner os × AreInOrder os

-- each output in the order of its owners
abbrev pub AllInOrder : List (Result (List Out) StepFault) → Type 0
AllInOrder [] = Unit {0}
AllInOrder (Ok outs ∷ rs) = AreInOrder outs × AllInOrder rs
AllInOrder (Err fault ∷ rs) = AllInOrder rs

-- ---- one station

-- one station over a list of events, from a state: by its own events alone, and by what every owner may see
abbrev pub own_state : Option ℕ → ℕ → StationState → Option StationState → StationState
own_state None e state after = state
own_state (Some n) e state after = if n == e then unwrap_or after state else state

abbrev pub station_run : Sight → ℕ → StationState → List Event → StationState
station_run s e state [] = state
station_run s e state (event ∷ events) =
    station_run (sight_after s event) e
    (unless (event_fault s event) state (own_state (station_of event) e state (happens s event).state)) events

-- the states of a subscriber after each of a list of items
abbrev pub states_run : SubscriberView → List Item → List (Option States)
states_run w [] = []
states_run w (item ∷ items) = Some (states_of (subscriber_after w item).solo) ∷ states_run (subscriber_after w item) items

-- the states of a slot that is provisioned
abbrev pub states_at : ℕ → World → Option States
states_at slot w = option_map (λ s. states_of s.solo) (slice_get w.subscribers slot)

-- and after each of a list of events
abbrev pub states_along : ℕ → World → List Event → List (Option States)
states_along slot w [] = []
states_along slot w (event ∷ events) = states_at slot (world_after w event) ∷ states_along slot (world_after w event) events
