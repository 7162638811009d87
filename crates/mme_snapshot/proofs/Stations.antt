-- The states of stations, one after another.
use Rattle.std.proofs.Common.{◌≡◌, ◌-◌, ◌+◌, ◌<◌, ℕ, suc, List, [], ◌∷◌, ◌++◌, length, map, replicate, Result, Ok, Err, refl, sym, ◌∙◌, ap, arith, append_assoc}
use Rattle.std.specs.Prelude.{slice_set}
use Rattle.std.proofs.lemmas.List.{append-nil, length-map, length_push, map_push}
use Rattle.per_streams.specs.declared.fault.PerFault.{PerFault}
use Rattle.per_streams.specs.declared.fault.PerError.TheVariants as errors
use Rattle.per_streams.specs.Bits.{Place}
use Rattle.per_streams.specs.Each.{times}
use Rattle.per_streams.specs.Times.{ends, goes_on, is_done, none_yet, with_front}
use Rattle.per_bits.specs.Formats.{Value}
use Rattle.mme_types.specs.declared.stations.StationState.{StationState}
use Rattle.mme_types.specs.declared.stations.StationState.TheVariants.{Down}
use Rattle.snapshot_formats.specs.Formats.{saved_station}
use Rattle.mme_snapshot.specs.declared.fault.RestoreFault.{RestoreFault}
use Rattle.mme_snapshot.specs.declared.fault.RestoreFault.TheVariants as faults
use Rattle.mme_snapshot.specs.Images.{named_station}
use Rattle.mme_snapshot.specs.Restored.{as_octets, part_at, stations_at}

-- so many were read, and all others are down
pub record AreRead (number : ℕ) (stations : List StationState) (reader first : Place) : Type 0 where
  pub front : List (Value saved_station)
  pub many : length front ≡ number
  pub states : stations ≡ map named_station front ++ replicate (128 - number) Down
  pub so_far : with_front front (times (part_at saved_station) (128 - number) reader) ≡ times (part_at saved_station) 128 first

pub none_read : (stations : List StationState) (first : Place) → stations ≡ replicate 128 Down → AreRead 0 stations first first
none_read stations first down = record { front = []; many = refl; states = down; so_far = none_yet (times (part_at saved_station) 128 first) }

set_at : (ss : List StationState) (d y : StationState) (rest : List StationState) → slice_set (ss ++ d ∷ rest) (length ss) y ≡ ss ++ y ∷ rest
set_at [] d y rest = refl
set_at (s ∷ ss) d y rest = ap (λ (vs : List StationState). s ∷ vs) (set_at ss d y rest)

set_next : (ss : List StationState) (i : ℕ) (y : StationState) → i ≡ length ss → i < 128
    → slice_set (ss ++ replicate (128 - i) Down) i y ≡ (ss ++ y ∷ []) ++ replicate (128 - (i + 1)) Down
set_next ss i y is lt =
    let k : 128 - i ≡ suc (128 - (i + 1)) = omega arith in
    ap (λ n. slice_set (ss ++ replicate n Down) i y) k ∙ ap (λ n. slice_set (ss ++ Down ∷ replicate (128 - (i + 1)) Down) n y) is
    ∙ set_at ss Down y (replicate (128 - (i + 1)) Down) ∙ sym (append_assoc ss (y ∷ []) (replicate (128 - (i + 1)) Down))

pub one_more : (i : ℕ) (before after : List StationState) (reader next first : Place) (v : Value saved_station) (state : StationState)
    → AreRead i before reader first → i < 128 → part_at saved_station reader ≡ Ok (v, next) → state ≡ named_station v
    → after ≡ slice_set before i state → AreRead (i + 1) after next first
one_more i before after reader next first v state h lt read is set = record {
  front = h.front ++ v ∷ [];
  many = length_push h.front v ∙ ap (λ n. n + 1) h.many;
  states =
      let at : i ≡ length (map named_station h.front) = sym (length-map h.front named_station ∙ h.many) in
      set ∙ ap (λ (ss : List StationState). slice_set ss i state) h.states ∙ ap (slice_set (map named_station h.front ++ replicate (128 - i) Down) i) is
      ∙ set_next (map named_station h.front) i (named_station v) at lt
      ∙ ap (λ (ss : List StationState). ss ++ replicate (128 - (i + 1)) Down) (sym (map_push named_station h.front v));
  so_far = goes_on (part_at saved_station) h.front 128 i reader v next (times (part_at saved_station) 128 first) lt read h.so_far;
}

pub all_read : (i : ℕ) (stations : List StationState) (reader first : Place) → AreRead i stations reader first → i ≡ 128
    → stations_at first ≡ Ok (stations, reader)
all_read i stations reader first h all =
    let total : times (part_at saved_station) 128 first ≡ Ok (h.front, reader) =
    is_done (part_at saved_station) h.front 128 i reader (times (part_at saved_station) 128 first) (omega (arith, all)) h.so_far in
    let none : replicate (128 - i) Down ≡ [] = ap (λ n. replicate (128 - n) Down) all in
    let states : map named_station h.front ≡ stations =
    sym (h.states ∙ ap (λ (ss : List StationState). map named_station h.front ++ ss) none ∙ append-nil (map named_station h.front)) in
    rw total (ap (λ (ss : List StationState). Ok (ss, reader)) states)

unreadable : {A : Type 0} (r : Result A PerFault) (fault : RestoreFault) → as_octets r ≡ Err fault
    → (e : PerFault) × (r ≡ Err e) × (faults.Octets ≡ fault)
unreadable (Ok x) fault h = absurd (cc h)
unreadable (Err e) fault h = (e, refl, cc h)

pub one_refused : (i : ℕ) (stations : List StationState) (reader first : Place) (fault : RestoreFault) → AreRead i stations reader first
    → i < 128 → as_octets (part_at saved_station reader) ≡ Err fault → stations_at first ≡ Err fault
one_refused i stations reader first fault h lt refused =
    let why = unreadable (part_at saved_station reader) fault refused in
    let total : times (part_at saved_station) 128 first ≡ Err why.0 =
    ends (part_at saved_station) (errors.Fault why.0) h.front 128 i reader (times (part_at saved_station) 128 first) lt why.1 h.so_far in
    rw total (ap (λ (f : RestoreFault). Err f) why.2)
