-- Each station goes as its own events leave it, whatever the others do.
use Rattle.std.proofs.Common.{◌≡◌, ℕ, ◌<◌, List, [], ◌∷◌, length, Option, Some, None, refl, sym, ◌∙◌, ap, subst, arith, inl, inr}
use Rattle.std.specs.Prelude.{slice_set, unwrap_or}
use Rattle.std.proofs.lemmas.Bool.{cases_eq, eq-eqb, ne_eqb}
use Rattle.std.proofs.lemmas.List.{length-set, get_or-set_same, get_or-set_other}
use Rattle.mme_types.specs.declared.stations.StationState.{StationState}
use Rattle.mme_types.specs.declared.stations.StationState.TheVariants.{Down}
use Rattle.mme_types.specs.Stations.{station_at}
use Rattle.mme_core.specs.declared.event.Event.{Event}
use Rattle.mme_core.specs.declared.event.StepFault.{StepFault}
use Rattle.mme_core.specs.Projection.{own_state, station_run}
use Rattle.mme_core.specs.Sight.{Sight}
use Rattle.mme_core.specs.World.{World, event_fault, happens, placed, sight_after, sight_moved, station_of, unless, world_after, world_run}
use Rattle.laws_mme.specs.OwnersAlone.{StationGoesAlone}
use Rattle.laws_mme.proofs.Turns.{sight_once}

-- ---- as many stations as before

placed_many : (o : Option ℕ) (state : Option StationState) (stations : List StationState)
    → length (placed o state stations) ≡ length stations
placed_many None state stations = refl
placed_many (Some e) state stations = length-set stations e (unwrap_or state (station_at stations e))

many_unless : (o : Option StepFault) (s t : Sight) → length t.stations ≡ length s.stations
    → length (unless o s t).stations ≡ length s.stations
many_unless None s t h = h
many_unless (Some fault) s t h = refl

pub as_many_stations : (s : Sight) (event : Event) → length (sight_after s event).stations ≡ length s.stations
as_many_stations s event =
    many_unless (event_fault s event) s (sight_moved s event) (placed_many (station_of event) (happens s event).state s.stations)

-- ---- one event

own_by : (o : Option ℕ) (e : ℕ) (stations : List StationState) (state : Option StationState) → e < length stations
    → station_at (placed o state stations) e ≡ own_state o e (station_at stations e) state
own_by None e stations state lt = refl
own_by (Some n) e stations state lt = elim (cases_eq n e) [
  | inl is ↦
      rw (eq-eqb n e is)
      (subst (λ (k : ℕ). station_at (slice_set stations n (unwrap_or state (station_at stations n))) k ≡ unwrap_or state (station_at stations k)) is
      (get_or-set_same stations n (unwrap_or state (station_at stations n)) Down (rw is lt)))
  | inr ne ↦ rw (ne_eqb n e ne) (get_or-set_other stations n e (unwrap_or state (station_at stations n)) Down (λ k. ne (sym k)))
]

own_unless : (o : Option StepFault) (s t : Sight) (e : ℕ) (state : StationState) → station_at t.stations e ≡ state
    → station_at (unless o s t).stations e ≡ unless o (station_at s.stations e) state
own_unless None s t e state h = h
own_unless (Some fault) s t e state h = refl

pub station_once : (s : Sight) (event : Event) (e : ℕ) → e < length s.stations
    → station_at (sight_after s event).stations e
    ≡ unless (event_fault s event) (station_at s.stations e)
    (own_state (station_of event) e (station_at s.stations e) (happens s event).state)
station_once s event e lt =
    own_unless (event_fault s event) s (sight_moved s event) e _ (own_by (station_of event) e s.stations (happens s event).state lt)

-- ---- a list of events

pub station_goes_alone : StationGoesAlone
station_goes_alone w [] e lt = refl
station_goes_alone w (event ∷ events) e lt =
    let s = w.sight in
    let same = ap (λ (t : Sight). length t.stations) (sight_once w event) in
    let many = as_many_stations s event in
    station_goes_alone (world_after w event) events e (omega (arith, same, many, lt))
    ∙ ap (λ (t : Sight). station_run t e (station_at t.stations e) events) (sight_once w event)
    ∙ ap (λ state. station_run (sight_after s event) e state events) (station_once s event e lt)
