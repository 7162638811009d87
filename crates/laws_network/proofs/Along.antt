-- Event by event, what is in range stays so, and each item of a slot is in range.
use Rattle.std.proofs.Common.{◌≡◌, ℕ, ◌+◌, List, [], ◌∷◌, length, Option, Some, None, refl, sym, ◌∙◌, ap, subst}
use Rattle.std.specs.Prelude.{◌==◌, unwrap_or}
use Rattle.std.specs.List.{AllByRecursion}
use Rattle.std.proofs.lemmas.Bool.{cond_both}
use Rattle.std.proofs.lemmas.List.{length-set}
use Rattle.sorted_list.specs.Ordered.{Rising}
use Rattle.identity_slots.specs.declared.profile.Profile.{Profile}
use Rattle.mme_types.specs.declared.stations.StationState.{StationState}
use Rattle.mme_types.specs.Events.{Item}
use Rattle.mme_types.specs.Events as items
use Rattle.mme_types.specs.Stations.{station_at}
use Rattle.emm_machine.specs.SubscriberView.{SubscriberView}
use Rattle.stranger_machine.specs.declared.state.Stranger.{Stranger}
use Rattle.stranger_machine.specs.declared.table.Known.{Known}
use Rattle.stranger_machine.specs.declared.turn.Notice.{Notice}
use Rattle.stranger_machine.specs.declared.turn.Notice.TheVariants.{Tick, Gone, Listed}
use Rattle.stranger_machine.specs.Machine.{Begins, Receives, stranger_step}
use Rattle.stranger_machine.specs.Table.{known_id, stranger_at}
use Rattle.stranger_machine.specs.Turns.{Call}
use Rattle.stranger_machine.specs.Laws as laws
use Rattle.mme_routing.specs.Destinations.{Destination, for_one, if_called, input_for, item_at, item_of_notice, strangers_left}
use Rattle.mme_routing.specs.Destinations as to
use Rattle.mme_core.specs.declared.event.Event.{Event}
use Rattle.mme_core.specs.declared.event.StepFault.{StepFault}
use Rattle.mme_core.specs.Projection.{item_for, projection, stranger_input, strangers_after}
use Rattle.mme_core.specs.Sight.{Sight}
use Rattle.mme_core.specs.World.{World, each_after, event_fault, happens, items_of, placed, sight_after, station_of, strangers_in, unless, world_after, world_run}
use Rattle.laws_network.specs.SubscriberRanges.{EachInRange, ItemInRange, StaysInRange}
use Rattle.laws_network.specs.Received.{EntriesAreInRange, MessagesAreInRange}
use Rattle.laws_network.specs.WorldRanges.{AreStrangersInRange, StrangerInRange, SubscriberInRange, WorldInRange}
use Rattle.laws_network.proofs.Routed.{DestinationInRange, goes_in_range}
use Rattle.laws_network.proofs.Turned.{CallInRange, InputInRange, input_in_range, turn_in_range}

-- refused or not
either_way : {A : Type 0} (P : A → Type 0) (o : Option StepFault) {before after : A} → P before → P after
    → P (unless o before after)
either_way P None h k = k
either_way P (Some fault) h k = h

-- ---- the items of an event

one : (n : ℕ) (item : Item) (slot : ℕ) → ItemInRange item → ItemInRange (for_one n item slot)
one n item slot fits = cond_both (n == slot) item items.Nothing ItemInRange (λ is. fits) (λ is. tt)

called : (o : Option Call) (slot : ℕ) → CallInRange o → ItemInRange (if_called o slot)
called None slot fits = tt
called (Some c) slot fits = one c.slot c.item slot fits

told_all : (notice : Notice) → ItemInRange (item_of_notice notice)
told_all Tick = tt
told_all (Gone e) = tt
told_all (Listed e listed) = tt

at_slot : (d : Destination) (ps : List Profile) (g : ℕ → Option Stranger) (slot : ℕ) → DestinationInRange d → AreStrangersInRange g
    → ItemInRange (item_at d ps g slot)
at_slot to.Nobody ps g slot fits strangers = tt
at_slot (to.Subscriber n item) ps g slot fits strangers = one n item slot fits
at_slot (to.Beginner id m) ps g slot fits strangers =
    called (stranger_step ps id (g id) (Begins m)).call slot (turn_in_range ps id (g id) (Begins m) fits (strangers id)).call
at_slot (to.Stranger m) ps g slot fits strangers =
    called (stranger_step ps m.mme_ue_id (g m.mme_ue_id) (Receives m)).call slot
    (turn_in_range ps m.mme_ue_id (g m.mme_ue_id) (Receives m) fits (strangers m.mme_ue_id)).call
at_slot (to.Everyone notice) ps g slot fits strangers = told_all notice

-- ---- as many stations as before

as_many_placed : (o : Option ℕ) (state : Option StationState) (stations : List StationState)
    → length (placed o state stations) ≡ length stations
as_many_placed None state stations = refl
as_many_placed (Some e) state stations = length-set stations e (unwrap_or state (station_at stations e))

as_many_stations : (s : Sight) (event : Event) → length s.stations ≡ 128 → length (sight_after s event).stations ≡ 128
as_many_stations s event many =
    either_way (λ (t : Sight). length t.stations ≡ 128) (event_fault s event) many
    (as_many_placed (station_of event) (happens s event).state s.stations ∙ many)

-- ---- each stranger goes as its own machine, and the ids rise

turned : (ps : List Profile) (id : ℕ) (d : Destination) (ks : List Known) → Rising known_id ks
    → stranger_at id (strangers_left ps d ks) ≡ (stranger_step ps id (stranger_at id ks) (input_for d id)).stranger
turned ps id (to.Beginner n m) ks h = laws.one_turned ps id n (Begins m) ks h
turned ps id (to.Stranger m) ks h = laws.one_turned ps id m.mme_ue_id (Receives m) ks h
turned ps id (to.Everyone notice) ks h = laws.all_turned ps id notice ks h
turned ps id _ ks h = sym (ap (λ t. t.stranger) (laws.at_nothing ps id (stranger_at id ks)))

rising_next : (ps : List Profile) (d : Destination) (ks : List Known) → Rising known_id ks
    → Rising known_id (strangers_left ps d ks)
rising_next ps (to.Beginner id m) ks h = laws.rising_input ps id (Begins m) ks h
rising_next ps (to.Stranger m) ks h = laws.rising_input ps m.mme_ue_id (Receives m) ks h
rising_next ps (to.Everyone notice) ks h = laws.rising_noted notice ks h
rising_next ps _ ks h = h

-- ---- subscribers

each_stays : StaysInRange → (each : ℕ → Item) → ((slot : ℕ) → ItemInRange (each slot)) → (n : ℕ) (xs : List SubscriberView)
    → AllByRecursion SubscriberInRange xs
    → AllByRecursion SubscriberInRange (each_after each n xs)
each_stays kept each fits n [] h = tt
each_stays kept each fits n (x ∷ xs) h =
    (record { setting = h.0.setting; solo = kept x.setting x.solo (each n ∷ []) h.0.setting h.0.solo (fits n, tt) }, each_stays kept each fits (n + 1) xs h.1)

module _ (entries : EntriesAreInRange) (messages : MessagesAreInRange) where
  pub item_in_range : (slot : ℕ) (s : Sight) (g : ℕ → Option Stranger) (event : Event) → length s.stations ≡ 128
      → AreStrangersInRange g → ItemInRange (item_for slot s g event)
  item_in_range slot s g event many strangers =
      either_way ItemInRange (event_fault s event) tt
      (at_slot (happens s event).destination s.profiles g slot (goes_in_range entries messages s event many) strangers)

  -- each stranger by its own machine
  strangers_stay : (s : Sight) (g : ℕ → Option Stranger) (event : Event) → length s.stations ≡ 128 → AreStrangersInRange g
      → AreStrangersInRange (strangers_after s g event)
  strangers_stay s g event many strangers id =
      let fits =
      either_way (InputInRange id) (event_fault s event) tt
      (input_in_range (happens s event).destination id (goes_in_range entries messages s event many)) in
      (turn_in_range s.profiles id (g id) (stranger_input s id event) fits (strangers id)).stranger

  -- the items of a list
  pub items_in_range : (slot : ℕ) (s : Sight) (g : ℕ → Option Stranger) (events : List Event) → length s.stations ≡ 128
      → AreStrangersInRange g → EachInRange (projection slot s g events)
  items_in_range slot s g [] many strangers = tt
  items_in_range slot s g (event ∷ events) many strangers = (
    item_in_range slot s g event many strangers,
    items_in_range slot (sight_after s event) (strangers_after s g event) events (as_many_stations s event many)
        (strangers_stay s g event many strangers),
  )

  -- ---- the MME

  world_stays_once : StaysInRange → (w : World) (event : Event) → WorldInRange w → WorldInRange (world_after w event)
  world_stays_once kept w event h =
      let d = (happens w.sight event).destination in
      let goes = goes_in_range entries messages w.sight event h.stations in
      either_way WorldInRange (event_fault w.sight event) h
      (record {
        network = h.network;
        stations = as_many_placed (station_of event) (happens w.sight event).state w.sight.stations ∙ h.stations;
        rising = rising_next w.sight.profiles d w.strangers h.rising;
        strangers = λ id. subst (StrangerInRange id) (sym (turned w.sight.profiles id d w.strangers h.rising))
            (turn_in_range w.sight.profiles id (stranger_at id w.strangers) (input_for d id) (input_in_range d id goes) (h.strangers id)).stranger;
        subscribers = each_stays kept (items_of w.sight (strangers_in w) event) (λ slot. at_slot d w.sight.profiles (strangers_in w) slot goes h.strangers) 0 w.subscribers h.subscribers;
      })

  pub world_stays : StaysInRange → (w : World) (events : List Event) → WorldInRange w → WorldInRange (world_run w events)
  world_stays kept w [] h = h
  world_stays kept w (event ∷ events) h = world_stays kept (world_after w event) events (world_stays_once kept w event h)
