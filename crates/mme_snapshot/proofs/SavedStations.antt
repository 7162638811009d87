-- The states of stations, saved one after another.
use Rattle.std.proofs.Common.{◌≡◌, ◌∙◌, ℕ, List, [], ◌∷◌, ◌++◌, refl, sym, ap, append_assoc}
use Rattle.std.proofs.lemmas.List.{append-nil}
use Rattle.per_bits.specs.Formats.{Value}
use Rattle.per_bits.specs.Spelling.{SpellsWhole}
use Rattle.mme_types.specs.declared.stations.StationState.{StationState}
use Rattle.snapshot_formats.specs.Formats.{saved_station}
use Rattle.mme_snapshot.specs.Images.{named_station}
use Rattle.mme_snapshot.specs.Saved.{AreStations}

-- octets that spell the state of a station
abbrev pub IsStation : StationState → List ℕ → Type 0
IsStation s os = (v : Value saved_station) × (named_station v ≡ s) × SpellsWhole saved_station v os

pub stations_push : (ss : List StationState) (s : StationState) (os more : List ℕ) → AreStations ss os → IsStation s more
    → AreStations (ss ++ s ∷ []) (os ++ more)
stations_push [] s os more none one =
    (one.0, more, [], ap (λ (l : List ℕ). l ++ more) none ∙ sym (append-nil more), one.1, one.2, refl)
stations_push (x ∷ ss) s os more m one = (
  m.0,
  m.1,
  m.2 ++ more,
  ap (λ (l : List ℕ). l ++ more) m.3 ∙ append_assoc m.1 m.2 more,
  m.4,
  m.5,
  stations_push ss s m.2 more m.6 one,
)
