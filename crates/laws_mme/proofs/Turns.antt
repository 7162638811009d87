-- One event: what each owner is told, and what it is after it.
use Rattle.std.proofs.Common.{◌≡◌, ℕ, zero, suc, ◌+◌, List, [], ◌∷◌, map, Option, Some, None, Ok, refl, sym, ◌∙◌, ap}
use Rattle.std.specs.Prelude.{slice_get, Bool}
use Rattle.identity_slots.specs.declared.profile.Profile.{Profile}
use Rattle.sorted_list.specs.Ordered.{Rising}
use Rattle.mme_types.specs.Events.{Item, Nothing}
use Rattle.emm_machine.specs.SubscriberView.{SubscriberView}
use Rattle.stranger_machine.specs.declared.state.Stranger.{Stranger}
use Rattle.stranger_machine.specs.declared.table.Known.{Known}
use Rattle.stranger_machine.specs.Machine.{Input, Begins, Receives, stranger_step}
use Rattle.stranger_machine.specs.Machine as inputs
use Rattle.stranger_machine.specs.Table.{known_id, stranger_at}
use Rattle.stranger_machine.specs.Laws as strangers
use Rattle.mme_routing.specs.Destinations.{Destination, if_called, input_for, item_at, strangers_left}
use Rattle.mme_routing.specs.Destinations as to
use Rattle.mme_answering.specs.declared.out.Out.{Out}
use Rattle.mme_answering.specs.declared.out.Owner.{Owner}
use Rattle.mme_answering.specs.Laws.{at_nothing}
use Rattle.mme_core.specs.declared.event.Event.{Event}
use Rattle.mme_core.specs.declared.event.StepFault.{StepFault}
use Rattle.mme_core.specs.Laws.{GoesAlone, RepliesSo, told_if}
use Rattle.mme_core.specs.Projection.{Told, answer_told, is_slot, is_station, is_stranger, item_for, own_told, owned_by, stranger_input, strangers_after, told_in}
use Rattle.mme_core.specs.Sight.{Sight}
use Rattle.mme_core.specs.World.{World, each_after, event_fault, happens, items_of, outputs, reply, reply_of, sight_after, station_of, strangers_in, subscriber_after, subscriber_step, unless, world_after, world_moved}

-- ---- what every owner may see

sight_by : (o : Option StepFault) (w v : World) → (unless o w v).sight ≡ unless o w.sight v.sight
sight_by None w v = refl
sight_by (Some fault) w v = refl

pub sight_once : (w : World) (e : Event) → (world_after w e).sight ≡ sight_after w.sight e
sight_once w e = sight_by (event_fault w.sight e) w (world_moved w e)

-- ---- what is told

-- of an event that is taken it is said of the output, of one that is refused nothing is told
told_by : (own : Owner → Bool) (o : Option StepFault) (outs : List Out) (said : List Told)
    → (reply_of o outs ≡ Ok outs → owned_by own outs ≡ said) → ((fault : StepFault) → o ≡ Some fault → [] ≡ said)
    → told_in own (reply_of o outs) ≡ said
told_by own None outs said output silent = output refl
told_by own (Some fault) outs said output silent = silent fault refl

pub slot_told : RepliesSo → (w : World) (e : Event) (slot : ℕ) (x : SubscriberView) → Rising known_id w.strangers
    → slice_get w.subscribers slot ≡ Some x
    → told_in (is_slot slot) (reply w e) ≡ map answer_told (subscriber_step x (item_for slot w.sight (strangers_in w) e)).sent
slot_told so w e slot x rising there =
    let item = items_of w.sight (strangers_in w) e slot in
    told_by (is_slot slot) (event_fault w.sight e) (outputs w e) _
    (λ is. (so w e (outputs w e) rising is).subscribers slot
    ∙ ap (λ o. told_if o (item_for slot w.sight (strangers_in w) e)) there)
    (λ fault is. sym (ap (λ o. map answer_told (subscriber_step x (unless o Nothing item)).sent) is
    ∙ ap (λ d. map answer_told d.sent) (at_nothing x.setting x.solo)))

pub absent_told : RepliesSo → (w : World) (e : Event) (slot : ℕ) → Rising known_id w.strangers
    → slice_get w.subscribers slot ≡ None → told_in (is_slot slot) (reply w e) ≡ []
absent_told so w e slot rising gone =
    told_by (is_slot slot) (event_fault w.sight e) (outputs w e) []
    (λ is. (so w e (outputs w e) rising is).subscribers slot
    ∙ ap (λ o. told_if o (item_for slot w.sight (strangers_in w) e)) gone)
    (λ fault is. refl)

pub stranger_told_once : RepliesSo → (w : World) (e : Event) (id : ℕ) → Rising known_id w.strangers
    → told_in (is_stranger id) (reply w e)
    ≡ map answer_told (stranger_step w.sight.profiles id (stranger_at id w.strangers) (stranger_input w.sight id e)).sent
stranger_told_once so w e id rising =
    let ps = w.sight.profiles in
    let s = stranger_at id w.strangers in
    told_by (is_stranger id) (event_fault w.sight e) (outputs w e) _
    (λ is. (so w e (outputs w e) rising is).strangers id)
    (λ fault is. sym (ap (λ o. map answer_told (stranger_step ps id s (unless o inputs.Nothing (input_for (happens w.sight e).destination id))).sent) is
    ∙ ap (λ t. map answer_told t.sent) (strangers.at_nothing ps id s)))

pub station_told_once : RepliesSo → (w : World) (event : Event) (e : ℕ) → Rising known_id w.strangers
    → told_in (is_station e) (reply w event)
    ≡ unless (event_fault w.sight event) [] (own_told (station_of event) e (happens w.sight event).sent)
station_told_once so w event e rising =
    told_by (is_station e) (event_fault w.sight event) (outputs w event) _
    (λ is. (so w event (outputs w event) rising is).stations e)
    (λ fault is. sym (ap (λ o. unless o [] (own_told (station_of event) e (happens w.sight event).sent)) is))

-- ---- a subscriber after it

pub slot_after : GoesAlone → (w : World) (e : Event) (slot : ℕ) (x : SubscriberView) → Rising known_id w.strangers
    → slice_get w.subscribers slot ≡ Some x
    → slice_get (world_after w e).subscribers slot ≡ Some (subscriber_after x (item_for slot w.sight (strangers_in w) e))
slot_after goes w e slot x rising there = goes w (e ∷ []) slot x rising there

-- who isn't there isn't there after it
absent_each : (n k : ℕ) (items : ℕ → Item) (ws : List SubscriberView) → slice_get ws k ≡ None
    → slice_get (each_after items n ws) k ≡ None
absent_each n k items [] h = h
absent_each n zero items (x ∷ ws) h = absurd cc
absent_each n (suc k) items (x ∷ ws) h = absent_each (n + 1) k items ws h

absent_by : (slot : ℕ) (o : Option StepFault) (w v : World) → slice_get w.subscribers slot ≡ None
    → slice_get v.subscribers slot ≡ None → slice_get (unless o w v).subscribers slot ≡ None
absent_by slot None w v h k = k
absent_by slot (Some fault) w v h k = h

pub absent_after : (w : World) (e : Event) (slot : ℕ) → slice_get w.subscribers slot ≡ None
    → slice_get (world_after w e).subscribers slot ≡ None
absent_after w e slot h =
    absent_by slot (event_fault w.sight e) w (world_moved w e) h
    (absent_each 0 slot (items_of w.sight (strangers_in w) e) w.subscribers h)

-- ---- the strangers after it

-- each stranger goes as its own machine
turned : (ps : List Profile) (id : ℕ) (d : Destination) (ks : List Known) → Rising known_id ks
    → stranger_at id (strangers_left ps d ks) ≡ (stranger_step ps id (stranger_at id ks) (input_for d id)).stranger
turned ps id to.Nobody ks h = sym (ap (λ t. t.stranger) (strangers.at_nothing ps id (stranger_at id ks)))
turned ps id (to.Subscriber n item) ks h = sym (ap (λ t. t.stranger) (strangers.at_nothing ps id (stranger_at id ks)))
turned ps id (to.Beginner n m) ks h = strangers.one_turned ps id n (Begins m) ks h
turned ps id (to.Stranger m) ks h = strangers.one_turned ps id m.mme_ue_id (Receives m) ks h
turned ps id (to.Everyone notice) ks h = strangers.all_turned ps id notice ks h

stranger_by : (id : ℕ) (ps : List Profile) (o : Option StepFault) (w v : World) (i : Input)
    → stranger_at id v.strangers ≡ (stranger_step ps id (stranger_at id w.strangers) i).stranger
    → stranger_at id (unless o w v).strangers
    ≡ (stranger_step ps id (stranger_at id w.strangers) (unless o inputs.Nothing i)).stranger
stranger_by id ps None w v i h = h
stranger_by id ps (Some fault) w v i h = sym (ap (λ t. t.stranger) (strangers.at_nothing ps id (stranger_at id w.strangers)))

pub stranger_once : (w : World) (e : Event) (id : ℕ) → Rising known_id w.strangers
    → stranger_at id (world_after w e).strangers ≡ strangers_after w.sight (strangers_in w) e id
stranger_once w e id h =
    stranger_by id w.sight.profiles (event_fault w.sight e) w (world_moved w e) (input_for (happens w.sight e).destination id)
    (turned w.sight.profiles id (happens w.sight e).destination w.strangers h)

-- and the ids rise
rising_next : (ps : List Profile) (d : Destination) (ks : List Known) → Rising known_id ks
    → Rising known_id (strangers_left ps d ks)
rising_next ps to.Nobody ks h = h
rising_next ps (to.Subscriber n item) ks h = h
rising_next ps (to.Beginner id m) ks h = strangers.rising_input ps id (Begins m) ks h
rising_next ps (to.Stranger m) ks h = strangers.rising_input ps m.mme_ue_id (Receives m) ks h
rising_next ps (to.Everyone notice) ks h = strangers.rising_noted notice ks h

rising_by : (o : Option StepFault) (w v : World) → Rising known_id w.strangers → Rising known_id v.strangers
    → Rising known_id (unless o w v).strangers
rising_by None w v h k = k
rising_by (Some fault) w v h k = h

pub rising_once : (w : World) (e : Event) → Rising known_id w.strangers → Rising known_id (world_after w e).strangers
rising_once w e h =
    rising_by (event_fault w.sight e) w (world_moved w e) h
    (rising_next w.sight.profiles (happens w.sight e).destination w.strangers h)

-- ---- strangers that are the same one by one call alike

item_at_same : (slot : ℕ) (d : Destination) (ps : List Profile) (g h : ℕ → Option Stranger) → ((id : ℕ) → g id ≡ h id)
    → item_at d ps g slot ≡ item_at d ps h slot
item_at_same slot to.Nobody ps g h same = refl
item_at_same slot (to.Subscriber n item) ps g h same = refl
item_at_same slot (to.Beginner id m) ps g h same = ap (λ x. if_called (stranger_step ps id x (Begins m)).call slot) (same id)
item_at_same slot (to.Stranger m) ps g h same =
    ap (λ x. if_called (stranger_step ps m.mme_ue_id x (Receives m)).call slot) (same m.mme_ue_id)
item_at_same slot (to.Everyone notice) ps g h same = refl

pub item_same : (slot : ℕ) (s : Sight) (g h : ℕ → Option Stranger) (e : Event) → ((id : ℕ) → g id ≡ h id)
    → item_for slot s g e ≡ item_for slot s h e
item_same slot s g h e same =
    ap (λ item. unless (event_fault s e) Nothing item) (item_at_same slot (happens s e).destination s.profiles g h same)
