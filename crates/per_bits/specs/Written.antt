-- The one spelling that is written: without extensions, additions or names added later (X.691, canonical choices).
use Rattle.std.specs.Prelude.{◌≡◌, ℕ, ◌+◌, ◌-◌, ◌^◌, ◌&&◌, Bool, true, false, if◌then◌else◌, nat_le, nat_lt, ◌==◌, List, [], ◌∷◌, ◌++◌, length, Option, Some, None, ◌⊎◌}
use Rattle.std.proofs.Common.{inl, inr}
use Rattle.per_streams.specs.Octet.{all_below}
use Rattle.per_streams.specs.Bits.{octet_bits, pad, padded}
use Rattle.per_streams.specs.Numbers.{whole}
use Rattle.per_bits.specs.Spelling.{length_octets}
use Rattle.per_bits.specs.Formats.{Format, number, octets, octets_between, octet_string, bit_string, bits_between, enumerated, closed, items, open_type, plain, sequence, choice, Fields, done, must, may, skip, fixed, marked, Alternatives, last, either, Value, Values, Chosen, alternatives}
use Rattle.per_bits.specs.Writing.{presence, index_of}

-- octets from the next octet on (X.691 clause 17)
abbrev pub aligned_form : List ℕ → ℕ → List Bool
aligned_form os at = pad at ++ octet_bits os

-- a length without a bound (X.691 clause 11.9)
abbrev pub length_form : ℕ → ℕ → List Bool
length_form n at = pad at ++ octet_bits (length_octets n)

-- a length and its octets (X.691 clauses 17.8 and 11.2)
abbrev pub string_form : List ℕ → ℕ → List Bool
string_form os at = length_form (length os) at ++ aligned_form os (at + length (length_form (length os) at))

-- names 0 to n after an extension bit (X.691 clause 14)
abbrev pub name_form : ℕ → ℕ ⊎ ℕ → ℕ → List Bool
name_form n (inl k) at = false ∷ whole 0 n k (at + 1)
name_form n (inr k) at = []

abbrev pub each_form : {A : Type 0} → (A → ℕ → List Bool) → List A → ℕ → List Bool
each_form w [] at = []
each_form w (a ∷ more) at = w a at ++ each_form w more (at + length (w a at))

abbrev pub optional_form : {A : Type 0} → (A → ℕ → List Bool) → Option A → ℕ → List Bool
optional_form w None at = []
optional_form w (Some a) at = w a at

abbrev mutual
  pub written : (f : Format) → Value f → ℕ → List Bool
  written (number lo hi) n at = whole lo hi n at
  written (octets n) os at = if nat_lt n 3 then octet_bits os else aligned_form os at
  written (octets_between lo hi) os at = whole lo hi (length os) at ++ aligned_form os (at + length (whole lo hi (length os) at))
  written octet_string os at = string_form os at
  written (bit_string n) b at = if nat_lt n 17 then b else pad at ++ b
  written (bits_between lo hi) b at = whole lo hi (length b) at ++ (pad (at + length (whole lo hi (length b) at)) ++ b)
  written (enumerated n) v at = name_form n v at
  written (closed f) v at = false ∷ written f v (at + 1)
  written (items lo hi f) vs at = whole lo hi (length vs) at ++ each_form (written f) vs (at + length (whole lo hi (length vs) at))
  written (open_type f) v at = string_form (padded (written f v 0)) at
  written (plain fs) v at = presence fs v ++ written_fields fs v (at + length (presence fs v))
  written (sequence fs) v at = (false ∷ presence fs v) ++ written_fields fs v (at + length (false ∷ presence fs v))
  written (choice alts) v at =
      let index = false ∷ whole 0 (alternatives alts - 1) (index_of alts v) (at + 1) in
      index ++ written_chosen alts v (at + length index)

  pub written_fields : (fs : Fields) → Values fs → ℕ → List Bool
  written_fields done v at = []
  written_fields (must f fs) v at = written f v.0 at ++ written_fields fs v.1 (at + length (written f v.0 at))
  written_fields (may f fs) v at =
      optional_form (written f) v.0 at ++ written_fields fs v.1 (at + length (optional_form (written f) v.0 at))
  written_fields (skip f fs) v at = written_fields fs v at
  written_fields (fixed lo hi n fs) v at = whole lo hi n at ++ written_fields fs v (at + length (whole lo hi n at))
  written_fields (marked lo hi n fs) v at = whole lo hi n at ++ written_fields fs v (at + length (whole lo hi n at))

  pub written_chosen : (alts : Alternatives) → Chosen alts → ℕ → List Bool
  written_chosen (last f) v at = written f v at
  written_chosen (either f alts) (inl v) at = written f v at
  written_chosen (either f alts) (inr v) at = written_chosen alts v at

-- ---- which values have it

-- a number of lo..hi, of at most 64 bits after lo
abbrev pub number_fits : ℕ → ℕ → ℕ → Bool
number_fits lo hi n = nat_le lo n && (nat_le n hi && nat_lt (n - lo) (2 ^ 64))

-- at most 16383 octets
abbrev pub string_fits : List ℕ → Bool
string_fits os = nat_lt (length os) 16384 && all_below 256 os

-- no name that was added later
abbrev pub name_fits : ℕ → ℕ ⊎ ℕ → Bool
name_fits n (inl k) = number_fits 0 n k
name_fits n (inr k) = false

abbrev pub each_fits : {A : Type 0} → (A → Bool) → List A → Bool
each_fits p [] = true
each_fits p (a ∷ more) = p a && each_fits p more

abbrev pub optional_fits : {A : Type 0} → (A → Bool) → Option A → Bool
optional_fits p None = true
optional_fits p (Some a) = p a

abbrev mutual
  pub writable : (f : Format) → Value f → Bool
  writable (number lo hi) n = number_fits lo hi n
  writable (octets n) os = (length os) == n && all_below 256 os
  writable (octets_between lo hi) os = number_fits lo hi (length os) && all_below 256 os
  writable octet_string os = string_fits os
  writable (bit_string n) b = (length b) == n
  writable (bits_between lo hi) b = number_fits lo hi (length b)
  writable (enumerated n) v = name_fits n v
  writable (closed f) v = writable f v
  writable (items lo hi f) vs = number_fits lo hi (length vs) && each_fits (writable f) vs
  writable (open_type f) v = writable f v && string_fits (padded (written f v 0))
  writable (plain fs) v = writable_fields fs v
  writable (sequence fs) v = writable_fields fs v
  writable (choice alts) v = number_fits 0 (alternatives alts - 1) (index_of alts v) && writable_chosen alts v

  pub writable_fields : (fs : Fields) → Values fs → Bool
  writable_fields done v = true
  writable_fields (must f fs) v = writable f v.0 && writable_fields fs v.1
  writable_fields (may f fs) v = optional_fits (writable f) v.0 && writable_fields fs v.1
  writable_fields (skip f fs) v = writable_fields fs v
  writable_fields (fixed lo hi n fs) v = number_fits lo hi n && writable_fields fs v
  writable_fields (marked lo hi n fs) v = number_fits lo hi n && writable_fields fs v

  pub writable_chosen : (alts : Alternatives) → Chosen alts → Bool
  writable_chosen (last f) v = writable f v
  writable_chosen (either f alts) (inl v) = writable f v
  writable_chosen (either f alts) (inr v) = writable_chosen alts v

-- a value that has the written spelling
abbrev pub IsWritable : (f : Format) → Value f → Type 0
IsWritable f v = writable f v ≡ true
