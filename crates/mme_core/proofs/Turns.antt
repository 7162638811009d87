-- One event: what each owner is told, and what it is after it.
use Rattle.std.proofs.Common.{◌≡◌, ℕ, ◌+◌, suc, zero, List, [], ◌∷◌, ◌++◌, map, Option, Some, None, refl, sym, ◌∙◌, ap, arith}
use Rattle.std.specs.Prelude.{slice_get}
use Rattle.identity_slots.specs.declared.profile.Profile.{Profile}
use Rattle.sorted_list.specs.Ordered.{Rising}
use Rattle.mme_types.specs.Events.{Item, Nothing}
use Rattle.emm_machine.specs.SubscriberView.{SubscriberView}
use Rattle.stranger_machine.specs.declared.state.Stranger.{Stranger}
use Rattle.stranger_machine.specs.declared.table.Known.{Known}
use Rattle.stranger_machine.specs.Machine.{Input, Begins, Receives, stranger_step}
use Rattle.stranger_machine.specs.Machine as inputs
use Rattle.stranger_machine.specs.Table.{known_id, stranger_at}
use Rattle.stranger_machine.specs.Laws as laws
use Rattle.mme_routing.specs.Destinations.{Destination, if_called, input_for, item_at, strangers_left}
use Rattle.mme_routing.specs.Destinations as to
use Rattle.mme_core.specs.declared.event.Event.{Event}
use Rattle.mme_core.specs.declared.event.StepFault.{StepFault}
use Rattle.mme_answering.specs.declared.out.Out.{Out}
use Rattle.mme_core.specs.Projection.{Told, answer_told, is_slot, is_station, is_stranger, item_for, own_told, owned_by, stranger_input, strangers_after, told_in}
use Rattle.mme_core.specs.Sight.{Sight}
use Rattle.mme_core.specs.World.{World, each_after, each_sent, event_fault, happens, items_of, world_moved, outputs, reply, reply_of, sight_after, station_of, station_sent, strangers_in, strangers_sent, unless, subscriber_after, subscriber_step, world_after}
use Rattle.mme_answering.specs.Laws.{at_nothing, stays}
use Rattle.mme_core.proofs.Owned.{no_slot, no_station, no_stranger, owned_absent, owned_first, owned_second, owned_slot, owned_station, owned_stranger}

sight_by : (o : Option StepFault) (w v : World) → (unless o w v).sight ≡ unless o w.sight v.sight
sight_by None w v = refl
sight_by (Some fault) w v = refl

pub sight_once : (w : World) (e : Event) → (world_after w e).sight ≡ sight_after w.sight e
sight_once w e = sight_by (event_fault w.sight e) w (world_moved w e)

-- ---- a subscriber

slot_by : (o : Option StepFault) (outs : List Out) (slot : ℕ) (w : SubscriberView) (i : Item)
    → owned_by (is_slot slot) outs ≡ map answer_told (subscriber_step w i).sent
    → told_in (is_slot slot) (reply_of o outs) ≡ map answer_told (subscriber_step w (unless o Nothing i)).sent
slot_by None outs slot w i h = h
slot_by (Some fault) outs slot w i h = ap (λ d. map answer_told d.sent) (sym (at_nothing w.setting w.solo))

-- of an output a slot has nothing but what subscribers send
slot_part : (w : World) (e : Event) (slot : ℕ) → owned_by (is_slot slot) (outputs w e) ≡ owned_by (is_slot slot) (each_sent (items_of w.sight (strangers_in w) e) 0 w.subscribers)
slot_part w e slot =
    let each = each_sent (items_of w.sight (strangers_in w) e) 0 w.subscribers in
    let others = strangers_sent w.sight.profiles (happens w.sight e).destination w.strangers in
    owned_second (is_slot slot) (station_sent (station_of e) (happens w.sight e).sent) (others ++ each)
    (no_station (is_slot slot) (station_of e) (happens w.sight e).sent (λ n. refl))
    ∙ owned_second (is_slot slot) others each
    (no_stranger (is_slot slot) w.sight.profiles (happens w.sight e).destination w.strangers (λ id. refl))

pub slot_told : (w : World) (e : Event) (slot : ℕ) (x : SubscriberView) → slice_get w.subscribers slot ≡ Some x
    → told_in (is_slot slot) (reply w e) ≡ map answer_told (subscriber_step x (item_for slot w.sight (strangers_in w) e)).sent
slot_told w e slot x h =
    let items = items_of w.sight (strangers_in w) e in
    slot_by (event_fault w.sight e) (outputs w e) slot x (items slot)
    (slot_part w e slot ∙ owned_slot slot 0 slot items w.subscribers x (omega arith) h)

nothing_by : (o : Option StepFault) (outs : List Out) (slot : ℕ) → owned_by (is_slot slot) outs ≡ []
    → told_in (is_slot slot) (reply_of o outs) ≡ []
nothing_by None outs slot h = h
nothing_by (Some fault) outs slot h = refl

pub absent_told : (w : World) (e : Event) (slot : ℕ) → slice_get w.subscribers slot ≡ None → told_in (is_slot slot) (reply w e) ≡ []
absent_told w e slot h =
    nothing_by (event_fault w.sight e) (outputs w e) slot
    (slot_part w e slot ∙ owned_absent slot 0 slot (items_of w.sight (strangers_in w) e) w.subscribers (omega arith) h)

slice_get-each_after : (n k : ℕ) (items : ℕ → Item) (ws : List SubscriberView) (w : SubscriberView) → slice_get ws k ≡ Some w
    → slice_get (each_after items n ws) k ≡ Some (subscriber_after w (items (n + k)))
slice_get-each_after n k items [] w h = cc
slice_get-each_after n zero items (x ∷ ws) w h =
    let here : x ≡ w = cc in
    ap (λ y. Some (subscriber_after y (items n))) here ∙ ap (λ m. Some (subscriber_after w (items m))) (omega arith)
slice_get-each_after n (suc k) items (x ∷ ws) w h =
    slice_get-each_after (n + 1) k items ws w h ∙ ap (λ m. Some (subscriber_after w (items m))) (omega arith)

absent-each_after : (n k : ℕ) (items : ℕ → Item) (ws : List SubscriberView) → slice_get ws k ≡ None
    → slice_get (each_after items n ws) k ≡ None
absent-each_after n k items [] h = h
absent-each_after n zero items (x ∷ ws) h = absurd cc
absent-each_after n (suc k) items (x ∷ ws) h = absent-each_after (n + 1) k items ws h

after_by : (slot : ℕ) (o : Option StepFault) (w v : World) (x : SubscriberView) (i : Item) → slice_get w.subscribers slot ≡ Some x
    → slice_get v.subscribers slot ≡ Some (subscriber_after x i)
    → slice_get (unless o w v).subscribers slot ≡ Some (subscriber_after x (unless o Nothing i))
after_by slot None w v x i h k = k
after_by slot (Some fault) w v x i h k = h ∙ ap Some (sym (stays x))

pub slot_after : (w : World) (e : Event) (slot : ℕ) (x : SubscriberView) → slice_get w.subscribers slot ≡ Some x
    → slice_get (world_after w e).subscribers slot ≡ Some (subscriber_after x (item_for slot w.sight (strangers_in w) e))
slot_after w e slot x h =
    let items = items_of w.sight (strangers_in w) e in
    after_by slot (event_fault w.sight e) w (world_moved w e) x (items slot) h
    (slice_get-each_after 0 slot items w.subscribers x h ∙ ap (λ m. Some (subscriber_after x (items m))) (omega arith))

absent_by : (slot : ℕ) (o : Option StepFault) (w v : World) → slice_get w.subscribers slot ≡ None
    → slice_get v.subscribers slot ≡ None → slice_get (unless o w v).subscribers slot ≡ None
absent_by slot None w v h k = k
absent_by slot (Some fault) w v h k = h

pub absent_after : (w : World) (e : Event) (slot : ℕ) → slice_get w.subscribers slot ≡ None
    → slice_get (world_after w e).subscribers slot ≡ None
absent_after w e slot h =
    absent_by slot (event_fault w.sight e) w (world_moved w e) h
    (absent-each_after 0 slot (items_of w.sight (strangers_in w) e) w.subscribers h)

-- ---- a stranger

stranger_by : (id : ℕ) (ps : List Profile) (o : Option StepFault) (outs : List Out) (x : Option Stranger) (i : Input)
    → owned_by (is_stranger id) outs ≡ map answer_told (stranger_step ps id x i).sent
    → told_in (is_stranger id) (reply_of o outs) ≡ map answer_told (stranger_step ps id x (unless o inputs.Nothing i)).sent
stranger_by id ps None outs x i h = h
stranger_by id ps (Some fault) outs x i h = sym (ap (λ t. map answer_told t.sent) (laws.at_nothing ps id x))

pub stranger_told_once : (w : World) (e : Event) (id : ℕ) → Rising known_id w.strangers
    → told_in (is_stranger id) (reply w e)
    ≡ map answer_told (stranger_step w.sight.profiles id (stranger_at id w.strangers) (stranger_input w.sight id e)).sent
stranger_told_once w e id h =
    let each = each_sent (items_of w.sight (strangers_in w) e) 0 w.subscribers in
    let d = (happens w.sight e).destination in
    let own = strangers_sent w.sight.profiles d w.strangers in
    stranger_by id w.sight.profiles (event_fault w.sight e) (outputs w e) (stranger_at id w.strangers) (input_for d id)
    (owned_second (is_stranger id) (station_sent (station_of e) (happens w.sight e).sent) (own ++ each) (no_station (is_stranger id) (station_of e) (happens w.sight e).sent (λ n. refl))
    ∙ owned_first (is_stranger id) own each
    (no_slot (is_stranger id) (items_of w.sight (strangers_in w) e) 0 w.subscribers (λ m. refl))
    ∙ owned_stranger w.sight.profiles id d w.strangers h)

-- each stranger goes as its own machine
turned : (ps : List Profile) (id : ℕ) (d : Destination) (ks : List Known) → Rising known_id ks
    → stranger_at id (strangers_left ps d ks) ≡ (stranger_step ps id (stranger_at id ks) (input_for d id)).stranger
turned ps id to.Nobody ks h = sym (ap (λ t. t.stranger) (laws.at_nothing ps id (stranger_at id ks)))
turned ps id (to.Subscriber n item) ks h = sym (ap (λ t. t.stranger) (laws.at_nothing ps id (stranger_at id ks)))
turned ps id (to.Beginner n m) ks h = laws.one_turned ps id n (Begins m) ks h
turned ps id (to.Stranger m) ks h = laws.one_turned ps id m.mme_ue_id (Receives m) ks h
turned ps id (to.Everyone notice) ks h = laws.all_turned ps id notice ks h

-- and the ids rise
pub rising_next : (ps : List Profile) (d : Destination) (ks : List Known) → Rising known_id ks
    → Rising known_id (strangers_left ps d ks)
rising_next ps to.Nobody ks h = h
rising_next ps (to.Subscriber n item) ks h = h
rising_next ps (to.Beginner id m) ks h = laws.rising_input ps id (Begins m) ks h
rising_next ps (to.Stranger m) ks h = laws.rising_input ps m.mme_ue_id (Receives m) ks h
rising_next ps (to.Everyone notice) ks h = laws.rising_noted notice ks h

stranger_unless : (id : ℕ) (ps : List Profile) (o : Option StepFault) (w v : World) (i : Input)
    → stranger_at id v.strangers ≡ (stranger_step ps id (stranger_at id w.strangers) i).stranger
    → stranger_at id (unless o w v).strangers
    ≡ (stranger_step ps id (stranger_at id w.strangers) (unless o inputs.Nothing i)).stranger
stranger_unless id ps None w v i h = h
stranger_unless id ps (Some fault) w v i h = sym (ap (λ t. t.stranger) (laws.at_nothing ps id (stranger_at id w.strangers)))

pub stranger_once : (w : World) (e : Event) (id : ℕ) → Rising known_id w.strangers
    → stranger_at id (world_after w e).strangers ≡ strangers_after w.sight (strangers_in w) e id
stranger_once w e id h =
    stranger_unless id w.sight.profiles (event_fault w.sight e) w (world_moved w e) (input_for (happens w.sight e).destination id)
    (turned w.sight.profiles id (happens w.sight e).destination w.strangers h)

rising_by : (o : Option StepFault) (w v : World) → Rising known_id w.strangers → Rising known_id v.strangers
    → Rising known_id (unless o w v).strangers
rising_by None w v h k = k
rising_by (Some fault) w v h k = h

pub rising_once : (w : World) (e : Event) → Rising known_id w.strangers → Rising known_id (world_after w e).strangers
rising_once w e h =
    rising_by (event_fault w.sight e) w (world_moved w e) h
    (rising_next w.sight.profiles (happens w.sight e).destination w.strangers h)

-- ---- a station

station_by : (e : ℕ) (o : Option StepFault) (outs : List Out) (own : List Told) → owned_by (is_station e) outs ≡ own
    → told_in (is_station e) (reply_of o outs) ≡ unless o [] own
station_by e None outs own h = h
station_by e (Some fault) outs own h = refl

pub station_told_once : (w : World) (event : Event) (e : ℕ) → told_in (is_station e) (reply w event) ≡ unless (event_fault w.sight event) [] (own_told (station_of event) e (happens w.sight event).sent)
station_told_once w event e =
    let each = each_sent (items_of w.sight (strangers_in w) event) 0 w.subscribers in
    let d = (happens w.sight event).destination in
    let others = strangers_sent w.sight.profiles d w.strangers in
    let own = station_sent (station_of event) (happens w.sight event).sent in
    station_by e (event_fault w.sight event) (outputs w event) (own_told (station_of event) e (happens w.sight event).sent)
    (owned_first (is_station e) own (others ++ each)
    (owned_second (is_station e) others each (no_stranger (is_station e) w.sight.profiles d w.strangers (λ id. refl)) ∙ no_slot (is_station e) (items_of w.sight (strangers_in w) event) 0 w.subscribers (λ m. refl))
    ∙ owned_station e (station_of event) (happens w.sight event).sent)

-- ---- strangers that are the same one by one have the same items

item_at_same : (slot : ℕ) (d : Destination) (ps : List Profile) (g h : ℕ → Option Stranger) → ((id : ℕ) → g id ≡ h id)
    → item_at d ps g slot ≡ item_at d ps h slot
item_at_same slot to.Nobody ps g h same = refl
item_at_same slot (to.Subscriber n item) ps g h same = refl
item_at_same slot (to.Beginner id m) ps g h same = ap (λ x. if_called (stranger_step ps id x (Begins m)).call slot) (same id)
item_at_same slot (to.Stranger m) ps g h same =
    ap (λ x. if_called (stranger_step ps m.mme_ue_id x (Receives m)).call slot) (same m.mme_ue_id)
item_at_same slot (to.Everyone notice) ps g h same = refl

pub item_same : (slot : ℕ) (s : Sight) (g h : ℕ → Option Stranger) (e : Event) → ((id : ℕ) → g id ≡ h id)
    → item_for slot s g e ≡ item_for slot s h e
item_same slot s g h e same =
    ap (λ item. unless (event_fault s e) Nothing item) (item_at_same slot (happens s e).destination s.profiles g h same)
