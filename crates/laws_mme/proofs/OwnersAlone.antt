-- Each owner is alone over a list of events.
use Rattle.std.proofs.Common.{◌≡◌, ℕ, List, [], ◌∷◌, map, Option, Some, None, Result, Ok, refl, ◌∙◌, ap}
use Rattle.std.specs.Prelude.{option_map, slice_get}
use Rattle.sorted_list.specs.Ordered.{Rising}
use Rattle.emm_machine.specs.SubscriberView.{SubscriberView}
use Rattle.emm_machine.specs.Words.{states_of}
use Rattle.stranger_machine.specs.declared.state.Stranger.{Stranger}
use Rattle.stranger_machine.specs.Machine.{stranger_step}
use Rattle.stranger_machine.specs.Table.{known_id, stranger_at}
use Rattle.mme_answering.specs.declared.out.Out.{Out}
use Rattle.mme_core.specs.declared.event.Event.{Event}
use Rattle.mme_core.specs.declared.event.StepFault.{StepFault}
use Rattle.mme_core.specs.Laws.{GoesAlone, RepliesSo}
use Rattle.mme_core.specs.Projection.{AllInOrder, AreInOrder, answer_told, is_slot, is_station, is_stranger, item_for, own_told, projection, states_along, states_at, states_run, station_told, stranger_input, stranger_run, stranger_told, strangers_after, subscriber_told, told}
use Rattle.mme_core.specs.Sight.{Sight}
use Rattle.mme_core.specs.World.{World, event_fault, happens, outputs, replies, reply_of, sight_after, station_of, strangers_in, subscriber_after, subscriber_step, unless, world_after, world_run}
use Rattle.laws_mme.specs.OwnersAlone.{NobodyIsTold, RepliesAreInOrder, SlotGoesThroughStates, SlotIsTold, StationIsTold, StrangerGoesAlone, StrangerIsTold}
use Rattle.laws_mme.proofs.Turns.{absent_after, absent_told, item_same, rising_once, sight_once, slot_after, slot_told, station_told_once, stranger_once, stranger_told_once}

-- ---- the items after an event

projection_same : (slot : ℕ) (s : Sight) (g h : ℕ → Option Stranger) (es : List Event) → ((id : ℕ) → g id ≡ h id)
    → projection slot s g es ≡ projection slot s h es
projection_same slot s g h [] same = refl
projection_same slot s g h (e ∷ es) same =
    ap (λ i. i ∷ projection slot (sight_after s e) (strangers_after s g e) es) (item_same slot s g h e same)
    ∙ ap (λ is. item_for slot s h e ∷ is) (projection_same slot (sight_after s e) (strangers_after s g e) (strangers_after s h e) es
    (λ id. ap (λ x. (stranger_step s.profiles id x (stranger_input s id e)).stranger) (same id)))

items_on : (w : World) (e : Event) (es : List Event) (slot : ℕ) → Rising known_id w.strangers
    → projection slot (world_after w e).sight (strangers_in (world_after w e)) es
    ≡ projection slot (sight_after w.sight e) (strangers_after w.sight (strangers_in w) e) es
items_on w e es slot h =
    ap (λ s. projection slot s (strangers_in (world_after w e)) es) (sight_once w e)
    ∙ projection_same slot (sight_after w.sight e) (strangers_in (world_after w e)) (strangers_after w.sight (strangers_in w) e) es
    (λ id. stranger_once w e id h)

-- ---- a slot

pub slot_is_told : RepliesSo → GoesAlone → SlotIsTold
slot_is_told so goes w [] slot x r h = refl
slot_is_told so goes w (e ∷ es) slot x r h =
    let i = item_for slot w.sight (strangers_in w) e in
    ap (λ zs. zs ∷ told (is_slot slot) (replies (world_after w e) es)) (slot_told so w e slot x r h)
    ∙ ap (λ zs. map answer_told (subscriber_step x i).sent ∷ zs)
    (slot_is_told so goes (world_after w e) es slot (subscriber_after x i) (rising_once w e r) (slot_after goes w e slot x r h)
    ∙ ap (subscriber_told (subscriber_after x i)) (items_on w e es slot r))

states_seen : (slot : ℕ) (w : World) (x : SubscriberView) → slice_get w.subscribers slot ≡ Some x
    → states_at slot w ≡ Some (states_of x.solo)
states_seen slot w x h = ap (option_map (λ (s : SubscriberView). states_of s.solo)) h

pub slot_goes_through_states : GoesAlone → SlotGoesThroughStates
slot_goes_through_states goes w [] slot x r h = refl
slot_goes_through_states goes w (e ∷ es) slot x r h =
    let i = item_for slot w.sight (strangers_in w) e in
    let after = slot_after goes w e slot x r h in
    ap (λ s. s ∷ states_along slot (world_after w e) es) (states_seen slot (world_after w e) (subscriber_after x i) after)
    ∙ ap (λ ss. Some (states_of (subscriber_after x i).solo) ∷ ss)
    (slot_goes_through_states goes (world_after w e) es slot (subscriber_after x i) (rising_once w e r) after
    ∙ ap (states_run (subscriber_after x i)) (items_on w e es slot r))

-- for who isn't there, the list goes on without it
pub nobody_is_told : RepliesSo → NobodyIsTold
nobody_is_told so w [] slot r gone = refl
nobody_is_told so w (e ∷ es) slot r gone =
    ap (λ zs. zs ∷ told (is_slot slot) (replies (world_after w e) es)) (absent_told so w e slot r gone)
    ∙ ap (λ zs. [] ∷ zs) (nobody_is_told so (world_after w e) es slot (rising_once w e r) (absent_after w e slot gone))

-- ---- a stranger

pub stranger_is_told : RepliesSo → StrangerIsTold
stranger_is_told so w [] id r = refl
stranger_is_told so w (e ∷ es) id r =
    let t = stranger_step w.sight.profiles id (stranger_at id w.strangers) (stranger_input w.sight id e) in
    ap (λ zs. zs ∷ told (is_stranger id) (replies (world_after w e) es)) (stranger_told_once so w e id r)
    ∙ ap (λ zs. map answer_told t.sent ∷ zs) (stranger_is_told so (world_after w e) es id (rising_once w e r)
    ∙ ap (λ s. stranger_told s id (stranger_at id (world_after w e).strangers) es) (sight_once w e)
    ∙ ap (λ x. stranger_told (sight_after w.sight e) id x es) (stranger_once w e id r))

pub stranger_goes_alone : StrangerGoesAlone
stranger_goes_alone w [] id r = refl
stranger_goes_alone w (e ∷ es) id r =
    stranger_goes_alone (world_after w e) es id (rising_once w e r)
    ∙ ap (λ s. stranger_run s id (stranger_at id (world_after w e).strangers) es) (sight_once w e)
    ∙ ap (λ x. stranger_run (sight_after w.sight e) id x es) (stranger_once w e id r)

-- ---- a station

pub station_is_told : RepliesSo → StationIsTold
station_is_told so w [] e r = refl
station_is_told so w (event ∷ events) e r =
    ap (λ zs. zs ∷ told (is_station e) (replies (world_after w event) events)) (station_told_once so w event e r)
    ∙ ap (λ zs. unless (event_fault w.sight event) [] (own_told (station_of event) e (happens w.sight event).sent) ∷ zs)
    (station_is_told so (world_after w event) events e (rising_once w event r)
    ∙ ap (λ s. station_told s e events) (sight_once w event))

-- ---- the order

pub order_cons : (o : Option StepFault) (outs : List Out) (rs : List (Result (List Out) StepFault))
    → (reply_of o outs ≡ Ok outs → AreInOrder outs) → AllInOrder rs → AllInOrder (reply_of o outs ∷ rs)
order_cons None outs rs h k = (h refl, k)
order_cons (Some fault) outs rs h k = k

pub replies_are_in_order : RepliesSo → RepliesAreInOrder
replies_are_in_order so w [] r = tt
replies_are_in_order so w (e ∷ es) r =
    order_cons (event_fault w.sight e) (outputs w e) (replies (world_after w e) es)
    (λ is. (so w e (outputs w e) r is).order) (replies_are_in_order so (world_after w e) es (rising_once w e r))
