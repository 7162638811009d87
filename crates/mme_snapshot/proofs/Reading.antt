-- Parts one after another, read from the left.
use Rattle.std.proofs.Common.{◌≡◌, ℕ, ◌+◌, ◌*◌, ◌%◌, ◌∙◌, List, [], ◌∷◌, ◌++◌, length, map, Ok, Bool, refl, sym, ap, arith, append_assoc}
use Rattle.std.proofs.lemmas.Grind.{flat_map-append}
use Rattle.std.proofs.lemmas.List.{append-nil, length-append}
use Rattle.per_streams.specs.Bits.{Place, bits, octet_bits, start}
use Rattle.per_streams.specs.Each.{times}
use Rattle.per_bits.specs.Formats.{Format, Value}
use Rattle.per_bits.specs.Spelling.{SpellsWhole}
use Rattle.mme_types.specs.declared.stations.StationState.{StationState}
use Rattle.snapshot_formats.specs.Formats.{saved_station}
use Rattle.mme_snapshot.specs.Images.{named_station}
use Rattle.mme_snapshot.specs.Restored.{part_at}
use Rattle.mme_snapshot.specs.Saved.{AreStations}
use Rattle.mme_snapshot.proofs.Anywhere.{after, place_of, read_anywhere, stays_whole}

-- where octets stand, with none after them
abbrev pub at_octets : ℕ → List ℕ → Place
at_octets at os = place_of at os []

pub from_start : (os : List ℕ) → start os ≡ at_octets 0 os
from_start os = ap (λ (l : List Bool). record { at = 0; rest = l }) (sym (append-nil (octet_bits os)))

split_place : (at : ℕ) (a b : List ℕ) (rest : List Bool) → place_of at (a ++ b) rest ≡ place_of at a (octet_bits b ++ rest)
split_place at a b rest =
    ap (λ (l : List Bool). record { at = at; rest = l })
    (ap (λ (l : List Bool). l ++ rest) (flat_map-append (bits 8) a b) ∙ append_assoc (octet_bits a) (octet_bits b) rest)

joined : (at : ℕ) (a b : List ℕ) (rest : List Bool) → after (at + 8 * length a) b rest ≡ after at (a ++ b) rest
joined at a b rest =
    let size = length-append a b in
    let n : at + 8 * length a + 8 * length b ≡ at + 8 * length (a ++ b) = omega (arith, size) in
    ap (λ m. record { at = m; rest = rest }) n

nowhere : (at : ℕ) (rest : List Bool) → place_of at [] rest ≡ after at [] rest
nowhere at rest = let n : at ≡ at + 8 * 0 = omega arith in ap (λ m. record { at = m; rest = rest }) n

-- the first of two
pub read_first : (f : Format) (v : Value f) (a more : List ℕ) (at : ℕ) → SpellsWhole f v a → at % 8 ≡ 0
    → part_at f (at_octets at (a ++ more)) ≡ Ok (v, at_octets (at + 8 * length a) more)
read_first f v a more at m whole =
    ap (part_at f) (split_place at a more []) ∙ read_anywhere f v a at (octet_bits more ++ []) m whole

-- ---- the states of stations

pub record StationsRead (ss : List StationState) (n : ℕ) (from to : Place) : Type 0 where
  pub values : List (Value saved_station)
  pub states : map named_station values ≡ ss
  pub read : times (part_at saved_station) n from ≡ Ok (values, to)

stations_here : (ss : List StationState) (os : List ℕ) (at : ℕ) (rest : List Bool) → AreStations ss os → at % 8 ≡ 0
    → StationsRead ss (length ss) (place_of at os rest) (after at os rest)
unfolding times
stations_here [] os at rest none whole = record {
  values = [];
  states = refl;
  read =
      ap (λ (s : Place). Ok ([], s)) (ap (λ (l : List ℕ). place_of at l rest) none ∙ nowhere at rest ∙ ap (λ (l : List ℕ). after at l rest) (sym none));
}
stations_here (s ∷ ss) os at rest m whole =
    let v = m.0 in
    let a = m.1 in
    let b = m.2 in
    let next = at + 8 * length a in
    let k = stations_here ss b next rest m.6 (stays_whole at (length a) whole) in
    let one : part_at saved_station (place_of at os rest) ≡ Ok (v, place_of next b rest) =
    ap (λ (l : List ℕ). part_at saved_station (place_of at l rest)) m.3 ∙ ap (part_at saved_station) (split_place at a b rest)
    ∙ read_anywhere saved_station v a at (octet_bits b ++ rest) m.5 whole in
    record {
      values = v ∷ k.values;
      states = ap (λ (x : StationState). x ∷ map named_station k.values) m.4 ∙ ap (λ (xs : List StationState). s ∷ xs) k.states;
      read = rw (one, k.read)
          (ap (λ (t : Place). Ok (v ∷ k.values, t)) (joined at a b rest ∙ ap (λ (l : List ℕ). after at l rest) (sym m.3)));
    }

pub stations_read : (ss : List StationState) (a more : List ℕ) (at : ℕ) → AreStations ss a → at % 8 ≡ 0
    → StationsRead ss (length ss) (at_octets at (a ++ more)) (at_octets (at + 8 * length a) more)
stations_read ss a more at m whole =
    let k = stations_here ss a at (octet_bits more ++ []) m whole in
    record {
      values = k.values;
      states = k.states;
      read = ap (times (part_at saved_station) (length ss)) (split_place at a more []) ∙ k.read;
    }
