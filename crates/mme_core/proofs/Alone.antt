-- Each owner is alone over a list of events: what the MME sends it and its state are those of its own machine.
use Rattle.std.proofs.Common.{◌≡◌, ℕ, List, [], ◌∷◌, map, Option, Some, None, refl, ◌∙◌, ap}
use Rattle.std.specs.Prelude.{option_map, slice_get}
use Rattle.emm_machine.specs.Words.{states_of}
use Rattle.sorted_list.specs.Ordered.{Rising}
use Rattle.emm_machine.specs.SubscriberView.{SubscriberView}
use Rattle.stranger_machine.specs.declared.state.Stranger.{Stranger}
use Rattle.stranger_machine.specs.Machine.{stranger_step}
use Rattle.stranger_machine.specs.Table.{known_id, stranger_at}
use Rattle.mme_core.specs.declared.event.Event.{Event}
use Rattle.mme_core.specs.Projection.{alone_after, answer_told, is_slot, is_station, is_stranger, item_for, own_told, projection, silence, states_along, states_at, states_run, station_told, stranger_input, stranger_run, stranger_told, strangers_after, subscriber_told, told}
use Rattle.mme_core.specs.Sight.{Sight}
use Rattle.mme_core.specs.World.{World, event_fault, happens, replies, sight_after, station_of, strangers_in, unless, subscriber_after, subscriber_step, world_after, world_run}
use Rattle.mme_core.proofs.Turns.{absent_after, absent_told, item_same, rising_once, sight_once, slot_after, slot_told, station_told_once, stranger_once, stranger_told_once}

-- strangers that are the same one by one
projection_same : (slot : ℕ) (s : Sight) (g h : ℕ → Option Stranger) (es : List Event) → ((id : ℕ) → g id ≡ h id)
    → projection slot s g es ≡ projection slot s h es
projection_same slot s g h [] same = refl
projection_same slot s g h (e ∷ es) same =
    ap (λ i. i ∷ projection slot (sight_after s e) (strangers_after s g e) es) (item_same slot s g h e same)
    ∙ ap (λ is. item_for slot s h e ∷ is) (projection_same slot (sight_after s e) (strangers_after s g e) (strangers_after s h e) es
    (λ id. ap (λ x. (stranger_step s.profiles id x (stranger_input s id e)).stranger) (same id)))

-- the items after an event
items_on : (w : World) (e : Event) (es : List Event) (slot : ℕ) → Rising known_id w.strangers
    → projection slot (world_after w e).sight (strangers_in (world_after w e)) es
    ≡ projection slot (sight_after w.sight e) (strangers_after w.sight (strangers_in w) e) es
items_on w e es slot h =
    ap (λ s. projection slot s (strangers_in (world_after w e)) es) (sight_once w e)
    ∙ projection_same slot (sight_after w.sight e) (strangers_in (world_after w e)) (strangers_after w.sight (strangers_in w) e) es
    (λ id. stranger_once w e id h)

-- ---- a subscriber

pub slots_told : (w : World) (es : List Event) (slot : ℕ) (x : SubscriberView) → Rising known_id w.strangers
    → slice_get w.subscribers slot ≡ Some x
    → told (is_slot slot) (replies w es) ≡ subscriber_told x (projection slot w.sight (strangers_in w) es)
slots_told w [] slot x r h = refl
slots_told w (e ∷ es) slot x r h =
    let i = item_for slot w.sight (strangers_in w) e in
    ap (λ zs. zs ∷ told (is_slot slot) (replies (world_after w e) es)) (slot_told w e slot x h)
    ∙ ap (λ zs. map answer_told (subscriber_step x i).sent ∷ zs)
    (slots_told (world_after w e) es slot (subscriber_after x i) (rising_once w e r) (slot_after w e slot x h)
    ∙ ap (subscriber_told (subscriber_after x i)) (items_on w e es slot r))

pub slots_end : (w : World) (es : List Event) (slot : ℕ) (x : SubscriberView) → Rising known_id w.strangers
    → slice_get w.subscribers slot ≡ Some x
    → slice_get (world_run w es).subscribers slot ≡ Some (alone_after x (projection slot w.sight (strangers_in w) es))
slots_end w [] slot x r h = h
slots_end w (e ∷ es) slot x r h =
    let i = item_for slot w.sight (strangers_in w) e in
    slots_end (world_after w e) es slot (subscriber_after x i) (rising_once w e r) (slot_after w e slot x h)
    ∙ ap (λ is. Some (alone_after (subscriber_after x i) is)) (items_on w e es slot r)

-- and its states after each event
states_seen : (slot : ℕ) (w : World) (x : SubscriberView) → slice_get w.subscribers slot ≡ Some x
    → states_at slot w ≡ Some (states_of x.solo)
states_seen slot w x h = ap (option_map (λ (s : SubscriberView). states_of s.solo)) h

pub slots_along : (w : World) (es : List Event) (slot : ℕ) (x : SubscriberView) → Rising known_id w.strangers
    → slice_get w.subscribers slot ≡ Some x
    → states_along slot w es ≡ states_run x (projection slot w.sight (strangers_in w) es)
slots_along w [] slot x r h = refl
slots_along w (e ∷ es) slot x r h =
    let i = item_for slot w.sight (strangers_in w) e in
    ap (λ s. s ∷ states_along slot (world_after w e) es)
    (states_seen slot (world_after w e) (subscriber_after x i) (slot_after w e slot x h))
    ∙ ap (λ ss. Some (states_of (subscriber_after x i).solo) ∷ ss)
    (slots_along (world_after w e) es slot (subscriber_after x i) (rising_once w e r) (slot_after w e slot x h)
    ∙ ap (states_run (subscriber_after x i)) (items_on w e es slot r))

-- who isn't provisioned is sent nothing
pub absent_each : (w : World) (es : List Event) (slot : ℕ) → slice_get w.subscribers slot ≡ None
    → told (is_slot slot) (replies w es) ≡ silence es
absent_each w [] slot h = refl
absent_each w (e ∷ es) slot h =
    ap (λ zs. zs ∷ told (is_slot slot) (replies (world_after w e) es)) (absent_told w e slot h)
    ∙ ap (λ zs. [] ∷ zs) (absent_each (world_after w e) es slot (absent_after w e slot h))

-- ---- a stranger

pub strangers_told : (w : World) (es : List Event) (id : ℕ) → Rising known_id w.strangers
    → told (is_stranger id) (replies w es) ≡ stranger_told w.sight id (stranger_at id w.strangers) es
strangers_told w [] id r = refl
strangers_told w (e ∷ es) id r =
    let t = stranger_step w.sight.profiles id (stranger_at id w.strangers) (stranger_input w.sight id e) in
    ap (λ zs. zs ∷ told (is_stranger id) (replies (world_after w e) es)) (stranger_told_once w e id r)
    ∙ ap (λ zs. map answer_told t.sent ∷ zs) (strangers_told (world_after w e) es id (rising_once w e r)
    ∙ ap (λ s. stranger_told s id (stranger_at id (world_after w e).strangers) es) (sight_once w e)
    ∙ ap (λ x. stranger_told (sight_after w.sight e) id x es) (stranger_once w e id r))

pub strangers_end : (w : World) (es : List Event) (id : ℕ) → Rising known_id w.strangers
    → stranger_at id (world_run w es).strangers ≡ stranger_run w.sight id (stranger_at id w.strangers) es
strangers_end w [] id r = refl
strangers_end w (e ∷ es) id r =
    strangers_end (world_after w e) es id (rising_once w e r)
    ∙ ap (λ s. stranger_run s id (stranger_at id (world_after w e).strangers) es) (sight_once w e)
    ∙ ap (λ x. stranger_run (sight_after w.sight e) id x es) (stranger_once w e id r)

-- ---- a station

pub stations_told : (w : World) (es : List Event) (e : ℕ) → told (is_station e) (replies w es) ≡ station_told w.sight e es
stations_told w [] e = refl
stations_told w (event ∷ es) e =
    ap (λ zs. zs ∷ told (is_station e) (replies (world_after w event) es)) (station_told_once w event e)
    ∙ ap (λ zs. unless (event_fault w.sight event) [] (own_told (station_of event) e (happens w.sight event).sent) ∷ zs)
    (stations_told (world_after w event) es e ∙ ap (λ s. station_told s e es) (sight_once w event))
