-- Each owner alone over a list of acts: what it is told at each of them, and what it becomes.
use Rattle.std.specs.Prelude.{◌≡◌, ◌<◌, ◌==◌, ℕ, List, [], ◌∷◌, length, map, Option, Some, None, if◌then◌else◌, option_map, slice_get}
use Rattle.identity_slots.specs.declared.profile.Profile.{Profile}
use Rattle.identity_slots.specs.declared.profile.Vector.{Vector}
use Rattle.identity_slots.specs.Provisioned.{add_fault}
use Rattle.mme_types.specs.declared.network.Network.{Network}
use Rattle.mme_types.specs.declared.stations.StationState.{StationState}
use Rattle.mme_types.specs.Events.{Item, Nothing}
use Rattle.mme_types.specs.Stations.{station_at}
use Rattle.emm_machine.specs.declared.subscriber.States.{States}
use Rattle.emm_machine.specs.Given.{is_stocked, with_given}
use Rattle.emm_machine.specs.SubscriberView.{SubscriberView}
use Rattle.emm_machine.specs.Words.{states_of}
use Rattle.stranger_machine.specs.declared.state.Stranger.{Stranger}
use Rattle.stranger_machine.specs.Machine.{Input, stranger_step}
use Rattle.stranger_machine.specs.Machine as inputs
use Rattle.stranger_machine.specs.Table.{stranger_at}
use Rattle.mme_core.specs.Kept.{IsKept}
use Rattle.mme_core.specs.Laws.{told_if}
use Rattle.mme_core.specs.Projection.{AllInOrder, Told, answer_told, is_slot, is_station, is_stranger, item_for, own_state, own_told, states_at, stranger_input, told}
use Rattle.mme_core.specs.Provisioning.{fresh_subscriber, sight_added}
use Rattle.mme_core.specs.Sight.{Sight}
use Rattle.mme_core.specs.World.{World, event_fault, happens, sight_after, station_of, strangers_in, subscriber_after, unless}
use Rattle.laws_mme.specs.Acts.{Act, Adds, Gives, Happens, act_after, acts_replies, acts_run, unless_refused}

-- ---- what every owner may see, and the strangers

-- it moves by the acts alone
abbrev pub sight_acted : Sight → Act → Sight
sight_acted s (Happens event) = sight_after s event
sight_acted s (Adds p) = unless_refused (add_fault p s.profiles) s (sight_added p s)
sight_acted s (Gives slot v) = s

-- what of an act reaches the stranger with the id
abbrev pub act_input : Sight → ℕ → Act → Input
act_input s id (Happens event) = stranger_input s id event
act_input s id (Adds p) = inputs.Nothing
act_input s id (Gives slot v) = inputs.Nothing

-- the strangers after an act, each by its own machine
abbrev pub strangers_acted : Sight → (ℕ → Option Stranger) → Act → ℕ → Option Stranger
strangers_acted s g act id = (stranger_step s.profiles id (g id) (act_input s id act)).stranger

-- ---- a slot

-- what of an act is a slot's: an item, at nothing that reaches it the item Nothing; a vector; or the profile with which it begins
pub data OwnAct : Type 0 where
  OwnItem : Item → OwnAct
  OwnVector : Vector → OwnAct
  OwnProfile : Profile → OwnAct

-- by what every owner may see, and the strangers: no subscriber's state is in it
abbrev pub own_act : ℕ → Sight → (ℕ → Option Stranger) → Act → OwnAct
own_act slot s g (Happens event) = OwnItem (item_for slot s g event)
own_act slot s g (Adds p) =
    unless_refused (add_fault p s.profiles) (OwnItem Nothing) (if length s.profiles == slot then OwnProfile p else OwnItem Nothing)
own_act slot s g (Gives n v) = if n == slot then OwnVector v else OwnItem Nothing

abbrev pub own_acts_from : ℕ → Sight → (ℕ → Option Stranger) → List Act → List OwnAct
own_acts_from slot s g [] = []
own_acts_from slot s g (act ∷ acts) = own_act slot s g act ∷ own_acts_from slot (sight_acted s act) (strangers_acted s g act) acts

abbrev pub own_acts : ℕ → World → List Act → List OwnAct
own_acts slot w acts = own_acts_from slot w.sight (strangers_in w) acts

-- what its machine is told, if it is provisioned
abbrev pub own_sent : Option SubscriberView → OwnAct → List Told
own_sent x (OwnItem item) = told_if x item
own_sent x (OwnVector v) = []
own_sent x (OwnProfile p) = []

-- its machine after its act: who has enough vectors refuses one
abbrev pub own_after : Network → ℕ → Option SubscriberView → OwnAct → Option SubscriberView
own_after n slot x (OwnItem item) = option_map (λ y. subscriber_after y item) x
own_after n slot x (OwnVector v) = option_map (λ y. if is_stocked y then y else with_given v y) x
own_after n slot None (OwnProfile p) = Some (fresh_subscriber n slot p)
own_after n slot (Some x) (OwnProfile p) = Some x

-- over its acts
abbrev pub own_run_over : Network → ℕ → Option SubscriberView → List OwnAct → Option SubscriberView
own_run_over n slot x [] = x
own_run_over n slot x (act ∷ acts) = own_run_over n slot (own_after n slot x act) acts

abbrev pub own_told_over : Network → ℕ → Option SubscriberView → List OwnAct → List (List Told)
own_told_over n slot x [] = []
own_told_over n slot x (act ∷ acts) = own_sent x act ∷ own_told_over n slot (own_after n slot x act) acts

abbrev pub own_states_over : Network → ℕ → Option SubscriberView → List OwnAct → List (Option States)
own_states_over n slot x [] = []
own_states_over n slot x (act ∷ acts) =
    option_map (λ y. states_of y.solo) (own_after n slot x act) ∷ own_states_over n slot (own_after n slot x act) acts

-- the states of a slot after each act, none where it isn't provisioned
abbrev pub states_over : ℕ → World → List Act → List (Option States)
states_over slot w [] = []
states_over slot w (act ∷ acts) = states_at slot (act_after w act) ∷ states_over slot (act_after w act) acts

-- it is told what its machine sends
abbrev pub SlotIsToldOverActs : Type 0
SlotIsToldOverActs =
    (w : World) (acts : List Act) (slot : ℕ) → IsKept w
    → told (is_slot slot) (acts_replies w acts)
    ≡ own_told_over w.sight.config.network slot (slice_get w.subscribers slot) (own_acts slot w acts)

-- is in its machine's states after each act
abbrev pub SlotGoesThroughStatesOverActs : Type 0
SlotGoesThroughStatesOverActs =
    (w : World) (acts : List Act) (slot : ℕ) → IsKept w
    → states_over slot w acts
    ≡ own_states_over w.sight.config.network slot (slice_get w.subscribers slot) (own_acts slot w acts)

-- and is as its machine leaves it
abbrev pub SlotGoesAloneOverActs : Type 0
SlotGoesAloneOverActs =
    (w : World) (acts : List Act) (slot : ℕ) → IsKept w
    → slice_get (acts_run w acts).subscribers slot
    ≡ own_run_over w.sight.config.network slot (slice_get w.subscribers slot) (own_acts slot w acts)

-- ---- a stranger

-- its machine over a list of acts, by who is provisioned at each
abbrev pub stranger_run_over : Sight → ℕ → Option Stranger → List Act → Option Stranger
stranger_run_over s id x [] = x
stranger_run_over s id x (act ∷ acts) =
    stranger_run_over (sight_acted s act) id (stranger_step s.profiles id x (act_input s id act)).stranger acts

abbrev pub stranger_told_over : Sight → ℕ → Option Stranger → List Act → List (List Told)
stranger_told_over s id x [] = []
stranger_told_over s id x (act ∷ acts) =
    map answer_told (stranger_step s.profiles id x (act_input s id act)).sent
    ∷ stranger_told_over (sight_acted s act) id (stranger_step s.profiles id x (act_input s id act)).stranger acts

-- it is told what its machine sends
abbrev pub StrangerIsToldOverActs : Type 0
StrangerIsToldOverActs =
    (w : World) (acts : List Act) (id : ℕ) → IsKept w
    → told (is_stranger id) (acts_replies w acts) ≡ stranger_told_over w.sight id (stranger_at id w.strangers) acts

-- and is as its machine leaves it
abbrev pub StrangerGoesAloneOverActs : Type 0
StrangerGoesAloneOverActs =
    (w : World) (acts : List Act) (id : ℕ) → IsKept w
    → stranger_at id (acts_run w acts).strangers ≡ stranger_run_over w.sight id (stranger_at id w.strangers) acts

-- ---- a station

-- what its own events lead to
abbrev pub station_sent_at : Sight → ℕ → Act → List Told
station_sent_at s e (Happens event) = unless (event_fault s event) [] (own_told (station_of event) e (happens s event).sent)
station_sent_at s e (Adds p) = []
station_sent_at s e (Gives slot v) = []

abbrev pub station_after : Sight → ℕ → StationState → Act → StationState
station_after s e state (Happens event) =
    unless (event_fault s event) state (own_state (station_of event) e state (happens s event).state)
station_after s e state (Adds p) = state
station_after s e state (Gives slot v) = state

abbrev pub station_told_over : Sight → ℕ → List Act → List (List Told)
station_told_over s e [] = []
station_told_over s e (act ∷ acts) = station_sent_at s e act ∷ station_told_over (sight_acted s act) e acts

abbrev pub station_run_over : Sight → ℕ → StationState → List Act → StationState
station_run_over s e state [] = state
station_run_over s e state (act ∷ acts) = station_run_over (sight_acted s act) e (station_after s e state act) acts

-- it is told what they lead to
abbrev pub StationIsToldOverActs : Type 0
StationIsToldOverActs =
    (w : World) (acts : List Act) (e : ℕ) → IsKept w
    → told (is_station e) (acts_replies w acts) ≡ station_told_over w.sight e acts

-- and is in the state that they leave
abbrev pub StationGoesAloneOverActs : Type 0
StationGoesAloneOverActs =
    (w : World) (acts : List Act) (e : ℕ) → IsKept w → e < 128
    → station_at (acts_run w acts).sight.stations e ≡ station_run_over w.sight e (station_at w.sight.stations e) acts

-- ---- all of them

-- each reply is in the order of its owners; no message is of anybody else, by the type of an owner
abbrev pub RepliesToActsAreInOrder : Type 0
RepliesToActsAreInOrder = (w : World) (acts : List Act) → IsKept w → AllInOrder (acts_replies w acts)
