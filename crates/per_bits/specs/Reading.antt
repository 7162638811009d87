-- Reading values from the left: what is spelled is answered, and else the fault of the leftmost part that has no spelling at its
-- place.
use Rattle.std.specs.Prelude.{◌≡◌, ℕ, zero, suc, ◌+◌, ◌-◌, Bool, true, false, if◌then◌else◌, nat_lt, ◌==◌, List, Option, Some, None, Result, Ok, Err, ◌⊎◌}
use Rattle.std.proofs.Common.{inl, inr}
use Rattle.per_streams.specs.declared.fault.PerFault.{PerFault}
use Rattle.per_streams.specs.declared.fault.PerFault.TheVariants.{Range, Alternative}
use Rattle.per_streams.specs.declared.fault.PerError.{PerError}
use Rattle.per_streams.specs.Bits.{Place, start, ◌>>=◌, take_at, end_at, whole_octets_at, aligned_octets_at, open_at, bit_at, aligned_bits_at, Fails}
use Rattle.per_streams.specs.Each.{times}
use Rattle.per_streams.specs.Reading.{number_at}
use Rattle.per_bits.specs.Formats.{left_of, right_of, Format, Fields, Alternatives, Value, Values, Chosen, optionals, alternatives, flag_of, flags_after, number, octets, octets_between, octet_string, bit_string, bits_between, enumerated, closed, items, open_type, plain, sequence, choice, done, must, may, skip, fixed, marked, last, either}
use Rattle.per_bits.specs.Spelling.{trues}

unfoldable pub octets_at : ℕ → Place → Result (List ℕ × Place) PerFault
octets_at n s = if nat_lt n 3 then whole_octets_at n s else aligned_octets_at n s

unfoldable pub between_at : ℕ → ℕ → Place → Result (List ℕ × Place) PerFault
between_at lo hi s = do
  n ← number_at lo hi s
  aligned_octets_at n.0 n.1

unfoldable pub bits_at : ℕ → Place → Result (List Bool × Place) PerFault
bits_at n s = if nat_lt n 17 then take_at n s else aligned_bits_at n s

unfoldable pub bits_between_at : ℕ → ℕ → Place → Result (List Bool × Place) PerFault
bits_between_at lo hi s = do
  n ← number_at lo hi s
  aligned_bits_at n.0 n.1

-- an extension bit, which must be 0
abbrev pub closed_at : {A : Type 0} → PerFault → (Place → Result (A × Place) PerFault) → Place → Result (A × Place) PerFault
closed_at fault r s = do
  b ← bit_at s
  if b.0 then Err fault else r b.1

-- a normally small number
abbrev pub small_number_at : Place → Result (ℕ × Place) PerFault
small_number_at s = closed_at Range (number_at 0 63) s

abbrev pub extended_at : Place → Result ((ℕ ⊎ ℕ) × Place) PerFault
extended_at s = do
  x ← small_number_at s
  Ok (inr x.0, x.1)

abbrev pub root_at : ℕ → Place → Result ((ℕ ⊎ ℕ) × Place) PerFault
root_at n s = do
  x ← number_at 0 n s
  Ok (inl x.0, x.1)

unfoldable pub enumerated_at : ℕ → Place → Result ((ℕ ⊎ ℕ) × Place) PerFault
enumerated_at n s = do
  b ← bit_at s
  if b.0 then extended_at b.1 else root_at n b.1

abbrev pub optional_at : {A : Type 0} → Bool → (Place → Result (A × Place) PerFault) → Place → Result (Option A × Place) PerFault
optional_at false r s = Ok (None, s)
optional_at true r s = do
  x ← r s
  Ok (Some x.0, x.1)

abbrev pub skipped_at : {A : Type 0} → Bool → (Place → Result (A × Place) PerFault) → Place → Result (Unit {0} × Place) PerFault
skipped_at false r s = Ok (tt, s)
skipped_at true r s = do
  x ← r s
  Ok (tt, x.1)

unfoldable pub additions_at : Place → Result (List (List ℕ) × Place) PerFault
additions_at s = do
  more ← small_number_at s
  flags ← times bit_at (more.0 + 1) more.1
  times open_at (trues flags.0) flags.1

-- the octets of an element's value, after its id: its criticality stands before them, and is not compared
abbrev pub marked_at : Place → Result (List ℕ × Place) PerFault
marked_at s = do
  criticality ← number_at 0 2 s
  open_at criticality.1

-- a complete encoding
unfoldable pub whole_at : {A : Type 0} → (Place → Result (A × Place) PerFault) → List ℕ → Result A PerFault
whole_at r os = do
  x ← r (start os)
  e ← end_at x.1
  Ok x.0

abbrev pub inside_at : {A : Type 0} → (Place → Result (A × Place) PerFault) → Place → Result (A × Place) PerFault
inside_at r s = do
  os ← open_at s
  v ← whole_at r os.0
  Ok (v, os.1)

abbrev mutual
  pub read_at : (f : Format) → Place → Result (Value f × Place) PerFault
  read_at (number lo hi) s = number_at lo hi s
  read_at (octets n) s = octets_at n s
  read_at (octets_between lo hi) s = between_at lo hi s
  read_at octet_string s = open_at s
  read_at (bit_string n) s = bits_at n s
  read_at (bits_between lo hi) s = bits_between_at lo hi s
  read_at (enumerated n) s = enumerated_at n s
  read_at (closed f) s = closed_at Range (read_at f) s
  read_at (items lo hi f) s = do
    n ← number_at lo hi s
    times (read_at f) n.0 n.1
  read_at (open_type f) s = inside_at (read_at f) s
  read_at (plain fs) s = do
    flags ← times bit_at (optionals fs) s
    fields_at fs flags.0 flags.1
  read_at (sequence fs) s = do
    flags ← times bit_at (suc (optionals fs)) s
    v ← fields_at fs (flags_after flags.0) flags.1
    more ← skipped_at (flag_of flags.0) additions_at v.1
    Ok (v.0, more.1)
  read_at (choice alts) s = do
    i ← closed_at Alternative (number_at 0 (alternatives alts - 1)) s
    chosen_at alts i.0 i.1

  pub fields_at : (fs : Fields) → List Bool → Place → Result (Values fs × Place) PerFault
  fields_at done flags s = Ok (tt, s)
  fields_at (must f fs) flags s = do
    first ← read_at f s
    others ← fields_at fs flags first.1
    Ok ((first.0, others.0), others.1)
  fields_at (may f fs) flags s = do
    first ← optional_at (flag_of flags) (read_at f) s
    others ← fields_at fs (flags_after flags) first.1
    Ok ((first.0, others.0), others.1)
  fields_at (skip f fs) flags s = do
    first ← skipped_at (flag_of flags) (read_at f) s
    fields_at fs (flags_after flags) first.1
  fields_at (fixed lo hi n fs) flags s = do
    first ← number_at lo hi s
    if first.0 == n then fields_at fs flags first.1 else Err Range
  fields_at (marked lo hi n fs) flags s = do
    first ← number_at lo hi s
    fields_at fs flags first.1

  pub chosen_at : (alts : Alternatives) → ℕ → Place → Result (Chosen alts × Place) PerFault
  chosen_at (last f) zero s = read_at f s
  chosen_at (last f) (suc i) s = Err Range
  chosen_at (either f alts) zero s = do
    x ← read_at f s
    Ok (left_of x.0, x.1)
  chosen_at (either f alts) (suc i) s = do
    x ← chosen_at alts i s
    Ok (right_of x.0, x.1)

abbrev pub complete_at : (f : Format) → List ℕ → Result (Value f) PerFault
complete_at f os = whole_at (read_at f) os

-- What a function that reads a complete encoding returned is what reading gives, unless memory ran out.
abbrev pub GivesWhole : {X Y : Type 0} → (X → Y) → Result X PerError → Result Y PerFault → Type 0
GivesWhole view (Ok x) read = read ≡ Ok (view x)
GivesWhole view (Err e) read = Fails e read

-- how many of the bits that were read are 1
abbrev pub Counts : Result ℕ PerFault → Place → Result (List Bool × Place) PerFault → Type 0
Counts (Ok n) after read = (flags : List Bool) × (read ≡ Ok (flags, after)) × (n ≡ trues flags)
Counts (Err f) after read = read ≡ Err f
