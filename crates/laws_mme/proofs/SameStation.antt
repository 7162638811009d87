-- What is of others may be left out for a station.
use Rattle.std.proofs.Common.{◌≡◌, ◌<◌, ℕ, Bool, true, false, cond, List, [], ◌∷◌, ◌++◌, length, map, Option, Some, None, refl, sym, ◌∙◌, ap, arith}
use Rattle.std.specs.Prelude.{◌==◌, filter}
use Rattle.std.proofs.lemmas.Bool.Decides.{nat_tests}
use Rattle.identity_slots.specs.declared.profile.Profile.{Profile}
use Rattle.s1ap_pdus.specs.Pdus.{decoded}
use Rattle.mme_types.specs.declared.network.Network.{Network}
use Rattle.mme_types.specs.declared.octets.Answer.{Answer}
use Rattle.mme_types.specs.declared.stations.StationState.{StationState}
use Rattle.mme_types.specs.Stations.{station_at}
use Rattle.mme_routing.specs.Outcomes.{Outcome, outcome_of}
use Rattle.mme_core.specs.declared.event.Event.{Event}
use Rattle.mme_core.specs.declared.event.Event.TheVariants.{Up, Lost, In, Tick, Data, Cancel}
use Rattle.mme_core.specs.declared.event.StepFault.{StepFault}
use Rattle.mme_core.specs.declared.event.StepFault.TheVariants.{NotUp, AlreadyUp}
use Rattle.mme_core.specs.Laws.{RepliesSo, in_order}
use Rattle.mme_core.specs.Projection.{Told, own_state, own_told, station_run, station_told}
use Rattle.mme_core.specs.Sight.{Sight}
use Rattle.mme_core.specs.World.{World, event_fault, happens, if_down, sight_after, sight_moved, station_of, unless}
use Rattle.laws_mme.specs.Same.{IsSameStation, SameStationFromMme, SameToStation, events_of, is_number, unplaced}
use Rattle.laws_mme.proofs.OwnersAlone.{station_is_told}
use Rattle.laws_mme.proofs.StationsAlone.{as_many_stations, station_goes_alone, station_once}

-- ---- an event of another

told_by_none : (e : ℕ) (o : Option ℕ) (sent : List Answer) → is_number e o ≡ false → own_told o e sent ≡ []
told_by_none e None sent h = refl
told_by_none e (Some n) sent h = rw h refl

state_by_none : (e : ℕ) (o : Option ℕ) (state : StationState) (after : Option StationState) → is_number e o ≡ false
    → own_state o e state after ≡ state
state_by_none e None state after h = refl
state_by_none e (Some n) state after h = rw h refl

either : {A : Type 0} (o : Option StepFault) (a : A) → unless o a a ≡ a
either None a = refl
either (Some fault) a = refl

other_told : (s : Sight) (event : Event) (e : ℕ) → is_number e (station_of event) ≡ false
    → unless (event_fault s event) [] (own_told (station_of event) e (happens s event).sent) ≡ []
other_told s event e h =
    ap (λ zs. unless (event_fault s event) [] zs) (told_by_none e (station_of event) (happens s event).sent h)
    ∙ either (event_fault s event) []

other_state : (s : Sight) (event : Event) (e : ℕ) (state : StationState) → is_number e (station_of event) ≡ false
    → unless (event_fault s event) state (own_state (station_of event) e state (happens s event).state) ≡ state
other_state s event e state h =
    ap (λ x. unless (event_fault s event) state x) (state_by_none e (station_of event) state (happens s event).state h)
    ∙ either (event_fault s event) state

-- ---- an event of its own is the same to both

its_own : (e n : ℕ) → is_number e (Some n) ≡ true → n ≡ e
its_own e n h = grind (arith, nat_tests)

state_same : (s t : Sight) (e n : ℕ) → IsSameStation e s t → is_number e (Some n) ≡ true
    → station_at s.stations n ≡ station_at t.stations n
state_same s t e n h own = let is = its_own e n own in rw is h.state

fault_same : (s t : Sight) (event : Event) (e : ℕ) → IsSameStation e s t → is_number e (station_of event) ≡ true
    → event_fault s event ≡ event_fault t (unplaced event)
fault_same s t (Up n) e h own = ap (λ x. if_down x None (Some AlreadyUp)) (state_same s t e n h own)
fault_same s t (Lost n) e h own = ap (λ x. if_down x (Some NotUp) None) (state_same s t e n h own)
fault_same s t (In n octets) e h own = ap (λ x. if_down x (Some NotUp) None) (state_same s t e n h own)
fault_same s t Tick e h own = cc
fault_same s t (Data imsi) e h own = cc
fault_same s t (Cancel imsi) e h own = cc

outcome_same : (s t : Sight) (event : Event) (e : ℕ) → IsSameStation e s t → is_number e (station_of event) ≡ true
    → happens s event ≡ happens t (unplaced event)
unfolding happens
outcome_same s t (Up n) e h own = refl
outcome_same s t (Lost n) e h own = refl
outcome_same s t (In n octets) e h own =
    ap (λ network. outcome_of network s.profiles n (station_at s.stations n) (decoded octets.now)) h.network
    ∙ ap (λ ps. outcome_of t.config.network ps n (station_at s.stations n) (decoded octets.now)) h.profiles
    ∙ ap (λ x. outcome_of t.config.network t.profiles n x (decoded octets.now)) (state_same s t e n h own)
outcome_same s t Tick e h own = cc
outcome_same s t (Data imsi) e h own = cc
outcome_same s t (Cancel imsi) e h own = cc

station_same : (event : Event) → station_of event ≡ station_of (unplaced event)
station_same (Up n) = refl
station_same (Lost n) = refl
station_same (In n octets) = refl
station_same Tick = refl
station_same (Data imsi) = refl
station_same (Cancel imsi) = refl

told_same : (s t : Sight) (event : Event) (e : ℕ) → IsSameStation e s t → is_number e (station_of event) ≡ true
    → unless (event_fault s event) [] (own_told (station_of event) e (happens s event).sent)
    ≡ unless (event_fault t (unplaced event)) [] (own_told (station_of (unplaced event)) e (happens t (unplaced event)).sent)
told_same s t event e h own =
    ap (λ o. unless o [] (own_told (station_of event) e (happens s event).sent)) (fault_same s t event e h own)
    ∙ ap (λ o. unless (event_fault t (unplaced event)) [] (own_told o e (happens s event).sent)) (station_same event)
    ∙ ap (λ (x : Outcome). unless (event_fault t (unplaced event)) [] (own_told (station_of (unplaced event)) e x.sent))
    (outcome_same s t event e h own)

state_on : (s t : Sight) (event : Event) (e : ℕ) → IsSameStation e s t → is_number e (station_of event) ≡ true
    → unless (event_fault s event) (station_at s.stations e)
    (own_state (station_of event) e (station_at s.stations e) (happens s event).state)
    ≡ unless (event_fault t (unplaced event)) (station_at t.stations e)
    (own_state (station_of (unplaced event)) e (station_at t.stations e) (happens t (unplaced event)).state)
state_on s t event e h own =
    ap (λ x. unless (event_fault s event) x (own_state (station_of event) e x (happens s event).state)) h.state
    ∙ ap (λ o. unless o (station_at t.stations e) (own_state (station_of event) e (station_at t.stations e) (happens s event).state))
    (fault_same s t event e h own)
    ∙ ap (λ o. unless (event_fault t (unplaced event)) (station_at t.stations e)
    (own_state o e (station_at t.stations e) (happens s event).state)) (station_same event)
    ∙ ap (λ (x : Outcome). unless (event_fault t (unplaced event)) (station_at t.stations e)
    (own_state (station_of (unplaced event)) e (station_at t.stations e) x.state)) (outcome_same s t event e h own)

-- ---- what every owner may see goes on alike

network_by : (o : Option StepFault) (s t : Sight) → t.config.network ≡ s.config.network
    → (unless o s t).config.network ≡ s.config.network
network_by None s t h = h
network_by (Some fault) s t h = refl

network_once : (s : Sight) (e : Event) → (sight_after s e).config.network ≡ s.config.network
network_once s e = network_by (event_fault s e) s (sight_moved s e) refl

profiles_by : (o : Option StepFault) (s t : Sight) → t.profiles ≡ s.profiles → (unless o s t).profiles ≡ s.profiles
profiles_by None s t h = h
profiles_by (Some fault) s t h = refl

profiles_once : (s : Sight) (e : Event) → (sight_after s e).profiles ≡ s.profiles
profiles_once s e = profiles_by (event_fault s e) s (sight_moved s e) refl

there_once : (s : Sight) (event : Event) (e : ℕ) → e < length s.stations → e < length (sight_after s event).stations
there_once s event e lt = let many = as_many_stations s event in omega (arith, many, lt)

same_past : (s t : Sight) (event : Event) (e : ℕ) → IsSameStation e s t → is_number e (station_of event) ≡ false
    → IsSameStation e (sight_after s event) t
same_past s t event e h other = record {
  network = network_once s event ∙ h.network;
  profiles = profiles_once s event ∙ h.profiles;
  state = station_once s event e h.there ∙ other_state s event e (station_at s.stations e) other ∙ h.state;
  there = there_once s event e h.there;
  there_too = h.there_too;
}

same_on : (s t : Sight) (event : Event) (e : ℕ) → IsSameStation e s t → is_number e (station_of event) ≡ true
    → IsSameStation e (sight_after s event) (sight_after t (unplaced event))
same_on s t event e h own = record {
  network = network_once s event ∙ h.network ∙ sym (network_once t (unplaced event));
  profiles = profiles_once s event ∙ h.profiles ∙ sym (profiles_once t (unplaced event));
  state = station_once s event e h.there ∙ state_on s t event e h own ∙ sym (station_once t (unplaced event) e h.there_too);
  there = there_once s event e h.there;
  there_too = there_once t (unplaced event) e h.there_too;
}

-- ---- over a list

AreAlike : ℕ → Sight → List Event → Sight → List Event → Type 0
AreAlike e s es t ds =
    (in_order (station_told s e es) ≡ in_order (station_told t e ds))
    × (station_run s e (station_at s.stations e) es ≡ station_run t e (station_at t.stations e) ds)

-- an event and others, of which its own are left
events_by : Bool → Event → List Event → List Event
events_by b event own = cond b (unplaced event ∷ own) own

events_more : (e : ℕ) (b : Bool) (event : Event) (es : List Event)
    → map unplaced (cond b (event ∷ filter (λ x. is_number e (station_of x)) es) (filter (λ x. is_number e (station_of x)) es))
    ≡ events_by b event (events_of e es)
unfolding events_by
events_more e true event es = refl
events_more e false event es = refl

alike_by : (e : ℕ) (s t : Sight) (event : Event) (es own : List Event) (b : Bool) → is_number e (station_of event) ≡ b
    → IsSameStation e s t → ((s t : Sight) → IsSameStation e s t → AreAlike e s es t own)
    → AreAlike e s (event ∷ es) t (events_by b event own)
unfolding events_by AreAlike
alike_by e s t event es own true is h rest =
    let r = rest (sight_after s event) (sight_after t (unplaced event)) (same_on s t event e h is) in (
      ap (λ zs. zs ++ in_order (station_told (sight_after s event) e es)) (told_same s t event e h is)
          ∙ ap (λ zs. unless (event_fault t (unplaced event)) [] (own_told (station_of (unplaced event)) e (happens t (unplaced event)).sent) ++ zs) r.0,
      ap (λ x. station_run (sight_after s event) e x es) (sym (station_once s event e h.there)) ∙ r.1
          ∙ ap (λ x. station_run (sight_after t (unplaced event)) e x own) (station_once t (unplaced event) e h.there_too),
    )
alike_by e s t event es own false is h rest =
    let r = rest (sight_after s event) t (same_past s t event e h is) in (
      ap (λ zs. zs ++ in_order (station_told (sight_after s event) e es)) (other_told s event e is) ∙ r.0,
      ap (λ x. station_run (sight_after s event) e x es) (sym (station_once s event e h.there)) ∙ r.1,
    )

alike : (e : ℕ) (es : List Event) (s t : Sight) → IsSameStation e s t → AreAlike e s es t (events_of e es)
unfolding AreAlike
alike e [] s t h = (refl, h.state)
alike e (event ∷ es) s t h =
    rw (events_more e (is_number e (station_of event)) event es)
    (alike_by e s t event es (events_of e es) (is_number e (station_of event)) refl h (λ s t h. alike e es s t h))

same_itself : (e : ℕ) (s t : Sight) → IsSameStation e s t → IsSameStation e s s
same_itself e s t h = record { network = refl; profiles = refl; state = refl; there = h.there; there_too = h.there }

same_back : (e : ℕ) (s t : Sight) → IsSameStation e s t → IsSameStation e t s
same_back e s t h = record {
  network = sym h.network;
  profiles = sym h.profiles;
  state = sym h.state;
  there = h.there_too;
  there_too = h.there;
}

pub same_to_station : SameToStation
unfolding AreAlike
same_to_station e s t es ds h same =
    let a = alike e es s s (same_itself e s t h) in
    let b = alike e ds t s (same_back e s t h) in (
      a.0 ∙ ap (λ own. in_order (station_told s e own)) same ∙ sym b.0,
      a.1 ∙ ap (λ own. station_run s e (station_at s.stations e) own) same ∙ sym b.1,
    )

pub same_station_from_mme : RepliesSo → SameStationFromMme
same_station_from_mme so e w v es ds r q h same =
    let both = same_to_station e w.sight v.sight es ds h same in (
      ap in_order (station_is_told so w es e r) ∙ both.0 ∙ sym (ap in_order (station_is_told so v ds e q)),
      station_goes_alone w es e h.there ∙ both.1 ∙ sym (station_goes_alone v ds e h.there_too),
    )
