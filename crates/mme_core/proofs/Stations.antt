-- Each station goes as its own machine, whatever the others do.
use Rattle.std.proofs.Common.{◌≡◌, ℕ, ◌<◌, List, [], ◌∷◌, length, Option, Some, None, refl, sym, ◌∙◌, ap, subst, arith, inl, inr}
use Rattle.std.specs.Prelude.{slice_set, unwrap_or}
use Rattle.std.proofs.lemmas.Bool.{cases_eq, eq-eqb, ne_eqb}
use Rattle.std.proofs.lemmas.List.{length-set, get_or-set_same, get_or-set_other}
use Rattle.mme_types.specs.declared.stations.StationState.{StationState}
use Rattle.mme_types.specs.declared.stations.StationState.TheVariants.{Down}
use Rattle.mme_types.specs.Stations.{station_at}
use Rattle.mme_core.specs.declared.event.Event.{Event}
use Rattle.mme_core.specs.declared.event.StepFault.{StepFault}
use Rattle.mme_core.specs.Projection.{own_state, station_run}
use Rattle.mme_core.specs.Sight.{Sight}
use Rattle.mme_core.specs.World.{World, event_fault, happens, sight_after, sight_moved, placed, sight_run, station_of, unless, world_after, world_run}
use Rattle.mme_core.proofs.Turns.{sight_once}

-- what every owner may see after a run
pub sight_along : (w : World) (es : List Event) → (world_run w es).sight ≡ sight_run w.sight es
sight_along w [] = refl
sight_along w (e ∷ es) = sight_along (world_after w e) es ∙ ap (λ s. sight_run s es) (sight_once w e)

-- ---- one event

pub placed_many : (o : Option ℕ) (state : Option StationState) (stations : List StationState)
    → length (placed o state stations) ≡ length stations
placed_many None state stations = refl
placed_many (Some e) state stations = length-set stations e (unwrap_or state (station_at stations e))

many_unless : (o : Option StepFault) (s t : Sight) → length t.stations ≡ length s.stations
    → length (unless o s t).stations ≡ length s.stations
many_unless None s t h = h
many_unless (Some fault) s t h = refl

-- as many stations as before
pub as_many_stations : (s : Sight) (event : Event) → length (sight_after s event).stations ≡ length s.stations
as_many_stations s event =
    many_unless (event_fault s event) s (sight_moved s event) (placed_many (station_of event) (happens s event).state s.stations)

own_by : (o : Option ℕ) (e : ℕ) (stations : List StationState) (state : Option StationState) → e < length stations
    → station_at (placed o state stations) e ≡ own_state o e (station_at stations e) state
own_by None e stations state lt = refl
own_by (Some n) e stations state lt = elim (cases_eq n e) [
  | inl is ↦
      rw (eq-eqb n e is)
      (subst (λ (k : ℕ). station_at (slice_set stations n (unwrap_or state (station_at stations n))) k ≡ unwrap_or state (station_at stations k)) is
      (get_or-set_same stations n (unwrap_or state (station_at stations n)) Down (rw is lt)))
  | inr ne ↦ rw (ne_eqb n e ne) (get_or-set_other stations n e (unwrap_or state (station_at stations n)) Down (λ k. ne (sym k)))
]

own_unless : (o : Option StepFault) (s t : Sight) (e : ℕ) (state : StationState) → station_at t.stations e ≡ state
    → station_at (unless o s t).stations e ≡ unless o (station_at s.stations e) state
own_unless None s t e state h = h
own_unless (Some fault) s t e state h = refl

turn : (s : Sight) (event : Event) (e : ℕ) → e < length s.stations → station_at (sight_after s event).stations e ≡ unless (event_fault s event) (station_at s.stations e) (own_state (station_of event) e (station_at s.stations e) (happens s event).state)
turn s event e lt =
    own_unless (event_fault s event) s (sight_moved s event) e _ (own_by (station_of event) e s.stations (happens s event).state lt)

-- ---- a list of events

pub station_along : (s : Sight) (e : ℕ) (es : List Event) → e < length s.stations
    → station_at (sight_run s es).stations e ≡ station_run s e (station_at s.stations e) es
station_along s e [] lt = refl
station_along s e (x ∷ es) lt =
    station_along (sight_after s x) e es (let k = as_many_stations s x in omega (arith, k, lt))
    ∙ ap (λ state. station_run (sight_after s x) e state es) (turn s x e lt)

-- and of a run
pub station_ends : (w now : World) (e : ℕ) (es : List Event) → now ≡ world_run w es → e < length w.sight.stations
    → station_at now.sight.stations e ≡ station_run w.sight e (station_at w.sight.stations e) es
station_ends w now e es is lt =
    ap (λ (v : World). station_at v.sight.stations e) is ∙ ap (λ (s : Sight). station_at s.stations e) (sight_along w es)
    ∙ station_along w.sight e es lt
