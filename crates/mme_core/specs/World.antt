-- The whole MME, and the whole output of an event.
use Rattle.std.specs.Prelude.{ℕ, ◌+◌, ◌^◌, nat_lt, Bool, true, false, List, [], ◌∷◌, ◌++◌, map, Option, Some, None, Result, Ok, Err, if◌then◌else◌, slice_set, unwrap_or}
use Rattle.identity_slots.specs.declared.profile.Profile.{Profile}
use Rattle.identity_slots.specs.declared.profile.Vector.{Vector}
use Rattle.identity_slots.specs.Provisioned.{Provisioned, slot_of_imsi, vectors_at}
use Rattle.s1ap_pdus.specs.Pdus.{decoded}
use Rattle.mme_types.specs.declared.octets.Answer.{Answer}
use Rattle.mme_types.specs.declared.network.Network.{Network}
use Rattle.mme_types.specs.declared.stations.StationState.{StationState}
use Rattle.mme_types.specs.declared.stations.StationState.TheVariants.{Down, Up, Ready}
use Rattle.mme_types.specs.Stations.{no_stations, station_at}
use Rattle.mme_types.specs.Events.{Item, Data, Cancel}
use Rattle.emm_machine.specs.SubscriberView.{SubscriberView}
use Rattle.emm_machine.specs.Words.{fresh_solo}
use Rattle.stranger_machine.specs.declared.state.Stranger.{Stranger}
use Rattle.stranger_machine.specs.declared.table.Known.{Known}
use Rattle.stranger_machine.specs.declared.turn.Notice.TheVariants as notices
use Rattle.stranger_machine.specs.Table.{stranger_at}
use Rattle.mme_core.specs.declared.config.Config.{Config}
use Rattle.mme_core.specs.declared.event.Event.{Event}
use Rattle.mme_core.specs.declared.event.Event.TheVariants.{Up as UpEvent, Lost as LostEvent, In as InEvent, Tick as TickEvent, Data as DataEvent, Cancel as CancelEvent}
use Rattle.mme_core.specs.declared.event.StepFault.{StepFault}
use Rattle.mme_core.specs.declared.event.StepFault.TheVariants.{NotUp, AlreadyUp, ClockSpent, NoMemory, UnknownImsi}
use Rattle.mme_answering.specs.declared.out.Out.{Out}
use Rattle.mme_answering.specs.declared.out.Owner.TheVariants.{Station}
use Rattle.mme_core.specs.Sight.{Sight}
use Rattle.mme_owners.specs.Owners.{OwnersView}
use Rattle.mme_routing.specs.Destinations.{Destination, item_at, strangers_left}
use Rattle.mme_routing.specs.Destinations as to
use Rattle.mme_routing.specs.Outcomes.{Outcome, begins_anew, goes_to, outcome_of}
pub use Rattle.mme_owners.specs.Subscribers.{each_after, subscriber_after, subscriber_step}
pub use Rattle.mme_answering.specs.Sending.{each_known, each_sent, input_sent, owner_out, slot_out, stranger_out, strangers_sent}

-- ---- what is refused

-- nothing happens at an event that is refused
abbrev pub unless : {A : Type 0} → Option StepFault → A → A → A
unless None before after = after
unless (Some fault) before after = before

abbrev pub if_down : StationState → Option StepFault → Option StepFault → Option StepFault
if_down Down x y = x
if_down Up x y = y
if_down (Ready tas) x y = y

abbrev pub if_known : Option ℕ → Option StepFault
if_known None = Some UnknownImsi
if_known (Some slot) = None

-- the fault of an event, lack of memory apart
abbrev pub event_fault : Sight → Event → Option StepFault
event_fault s (UpEvent e) = if_down (station_at s.stations e) None (Some AlreadyUp)
event_fault s (LostEvent e) = if_down (station_at s.stations e) (Some NotUp) None
event_fault s (InEvent e octets) = if_down (station_at s.stations e) (Some NotUp) None
event_fault s TickEvent = if nat_lt s.clock (2 ^ 62) then None else Some ClockSpent
event_fault s (DataEvent imsi) = if_known (slot_of_imsi imsi s.profiles)
event_fault s (CancelEvent imsi) = if_known (slot_of_imsi imsi s.profiles)

-- the slot of the IMSI that an event names, if it names one that is provisioned
abbrev pub slot_named : Sight → Event → Option ℕ
slot_named s (UpEvent e) = None
slot_named s (LostEvent e) = None
slot_named s (InEvent e octets) = None
slot_named s TickEvent = None
slot_named s (DataEvent imsi) = slot_of_imsi imsi s.profiles
slot_named s (CancelEvent imsi) = slot_of_imsi imsi s.profiles

-- ---- what an event that is not refused makes of the station that it is of, and where it goes

-- the station that an event is of
abbrev pub station_of : Event → Option ℕ
station_of (UpEvent e) = Some e
station_of (LostEvent e) = Some e
station_of (InEvent e octets) = Some e
station_of TickEvent = None
station_of (DataEvent imsi) = None
station_of (CancelEvent imsi) = None

-- whether it is a message
abbrev pub is_message : Event → Bool
is_message (InEvent e octets) = true
is_message _ = false

abbrev pub to_slot : Option ℕ → Item → Destination
to_slot None item = to.Nobody
to_slot (Some slot) item = to.Subscriber slot item

unfoldable pub happens : Sight → Event → Outcome
happens s (UpEvent e) = record { state = Some Up; sent = []; destination = to.Nobody }
happens s (LostEvent e) = begins_anew e (Some Down) []
happens s (InEvent e octets) = outcome_of s.config.network s.profiles e (station_at s.stations e) (decoded octets.now)
happens s TickEvent = goes_to (to.Everyone notices.Tick)
happens s (DataEvent imsi) = goes_to (to_slot (slot_of_imsi imsi s.profiles) (Data s.stations))
happens s (CancelEvent imsi) = goes_to (to_slot (slot_of_imsi imsi s.profiles) Cancel)

abbrev pub clock_after : ℕ → Event → ℕ
clock_after clock (UpEvent e) = clock
clock_after clock (LostEvent e) = clock
clock_after clock (InEvent e octets) = clock
clock_after clock TickEvent = clock + 1
clock_after clock (DataEvent imsi) = clock
clock_after clock (CancelEvent imsi) = clock

-- the stations, where that one has a new state
abbrev pub placed : Option ℕ → Option StationState → List StationState → List StationState
placed None state stations = stations
placed (Some e) state stations = slice_set stations e (unwrap_or state (station_at stations e))

abbrev pub sight_moved : Sight → Event → Sight
sight_moved s event = record {
  config = s.config;
  clock = clock_after s.clock event;
  stations = placed (station_of event) (happens s event).state s.stations;
  profiles = s.profiles;
}

-- the clock and the stations after an event
abbrev pub sight_after : Sight → Event → Sight
sight_after s event = unless (event_fault s event) s (sight_moved s event)

abbrev pub sight_run : Sight → List Event → Sight
sight_run s [] = s
sight_run s (event ∷ events) = sight_run (sight_after s event) events

-- ---- the subscribers

-- a subscriber who was never seen, with these vectors
abbrev pub never_seen : Network → ℕ → Profile → List Vector → SubscriberView
never_seen n slot p vectors =
    record { setting = record { network = n; slot = slot; profile = p; vectors = vectors }; solo = fresh_solo }

-- such subscribers, from a slot on
abbrev pub fresh_subscribers : Network → ℕ → List Profile → List (List Vector) → List SubscriberView
fresh_subscribers n slot [] vectors = []
fresh_subscribers n slot (p ∷ ps) vectors =
    never_seen n slot p (vectors_at slot vectors) ∷ fresh_subscribers n (slot + 1) ps vectors

-- ---- the MME

pub record World : Type 0 where
  pub sight : Sight
  pub strangers : List Known
  pub subscribers : List SubscriberView

-- an MME with these owners
abbrev pub world_of : Sight → OwnersView → World
world_of s o = record { sight = s; strangers = o.strangers; subscribers = o.subscribers }

-- an MME of these parts
abbrev pub parts_world : Config → ℕ → List StationState → List Profile → OwnersView → World
parts_world config clock stations ps o =
    world_of (record { config = config; clock = clock; stations = stations; profiles = ps }) o

abbrev pub fresh_world : Config → Provisioned → World
fresh_world config p = record {
  sight = record { config = config; clock = config.clock; stations = no_stations; profiles = p.profiles };
  strangers = [];
  subscribers = fresh_subscribers config.network 0 p.profiles p.vectors;
}

-- each stranger by its id
abbrev pub strangers_in : World → ℕ → Option Stranger
strangers_in w id = stranger_at id w.strangers

-- what of an event each slot has, by what every owner may see and by the strangers
abbrev pub items_of : Sight → (ℕ → Option Stranger) → Event → ℕ → Item
items_of s g event = item_at (happens s event).destination s.profiles g

abbrev pub world_moved : World → Event → World
world_moved w event = record {
  sight = sight_moved w.sight event;
  strangers = strangers_left w.sight.profiles (happens w.sight event).destination w.strangers;
  subscribers = each_after (items_of w.sight (strangers_in w) event) 0 w.subscribers;
}

-- the MME after an event
abbrev pub world_after : World → Event → World
world_after w event = unless (event_fault w.sight event) w (world_moved w event)

abbrev pub world_run : World → List Event → World
world_run w [] = w
world_run w (event ∷ events) = world_run (world_after w event) events

-- ---- output: of the station, then of strangers, then of subscribers by slot

abbrev pub station_out : ℕ → Answer → Out
station_out e a = owner_out (Station e) a

abbrev pub station_sent : Option ℕ → List Answer → List Out
station_sent None sent = []
station_sent (Some e) sent = map (station_out e) sent

abbrev pub outputs : World → Event → List Out
outputs w event =
    station_sent (station_of event) (happens w.sight event).sent
    ++ (strangers_sent w.sight.profiles (happens w.sight event).destination w.strangers
    ++ each_sent (items_of w.sight (strangers_in w) event) 0 w.subscribers)

abbrev pub reply_of : Option StepFault → List Out → Result (List Out) StepFault
reply_of None outs = Ok outs
reply_of (Some fault) outs = Err fault

-- the whole output of an event, or its fault
abbrev pub reply : World → Event → Result (List Out) StepFault
reply w event = reply_of (event_fault w.sight event) (outputs w event)

abbrev pub replies : World → List Event → List (Result (List Out) StepFault)
replies w [] = []
replies w (event ∷ events) = reply w event ∷ replies (world_after w event) events

-- ---- events that were refused for lack of memory are taken out of a list

abbrev pub is_no_memory : Result (List Out) StepFault → Bool
is_no_memory (Ok outs) = false
is_no_memory (Err NoMemory) = true
is_no_memory (Err NotUp) = false
is_no_memory (Err AlreadyUp) = false
is_no_memory (Err ClockSpent) = false
is_no_memory (Err UnknownImsi) = false

abbrev pub events_taken : List Event → List (Result (List Out) StepFault) → List Event
events_taken [] rs = []
events_taken (e ∷ es) [] = []
events_taken (e ∷ es) (r ∷ rs) = if is_no_memory r then events_taken es rs else e ∷ events_taken es rs

abbrev pub replies_given : List (Result (List Out) StepFault) → List (Result (List Out) StepFault)
replies_given [] = []
replies_given (r ∷ rs) = if is_no_memory r then replies_given rs else r ∷ replies_given rs
