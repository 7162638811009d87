-- How many octets the written form of a value has at most, by its format and the lengths of its strings, wherever it stands:
-- padding is counted as an octet, a number as ten (X.691 clauses 11.5, 11.9, 14 to 23).
use Rattle.std.specs.Prelude.{◌≡◌, ℕ, ◌+◌, ◌-◌, ◌≤◌, ◌==◌, ◌&&◌, nat_le, Bool, true, List, [], ◌∷◌, length, Option, Some, None}
use Rattle.std.proofs.Common.{inl, inr}
use Rattle.per_streams.specs.Octet.{all_below}
use Rattle.per_bits.specs.Formats.{Format, number, octets, octets_between, octet_string, bit_string, bits_between, enumerated, closed, items, open_type, plain, sequence, choice, Fields, done, must, may, skip, fixed, marked, Alternatives, last, either, Value, Values, Chosen, optionals, alternatives}
use Rattle.per_bits.specs.Writing.{index_of}
use Rattle.per_bits.specs.Written.{each_fits, name_fits, number_fits, optional_fits}
use Rattle.s1ap_rows.specs.Rows.{Rows, ie, end, needed, optional, unkept, Kept}
use Rattle.s1ap_pdus.specs.declared.pdu.Pdu.{Pdu}
use Rattle.s1ap_pdus.specs.Profile.{rows_of}
use Rattle.s1ap_pdus.specs.Pdus.{typed}

-- ---- values

abbrev pub most_of_each : {A : Type 0} → (A → ℕ) → List A → ℕ
most_of_each most [] = 0
most_of_each most (a ∷ more) = most a + most_of_each most more

abbrev pub most_of_optional : {A : Type 0} → (A → ℕ) → Option A → ℕ
most_of_optional most None = 0
most_of_optional most (Some a) = most a

-- at most n octets
abbrev mutual
  pub most_octets : (f : Format) → Value f → ℕ
  most_octets (number lo hi) n = 10
  most_octets (octets n) os = 1 + length os
  most_octets (octets_between lo hi) os = 10 + (1 + length os)
  most_octets octet_string os = 3 + (1 + length os)
  most_octets (bit_string n) b = 1 + length b
  most_octets (bits_between lo hi) b = 10 + (1 + length b)
  most_octets (enumerated n) v = 11
  most_octets (closed f) v = 1 + most_octets f v
  most_octets (items lo hi f) vs = 10 + most_of_each (most_octets f) vs
  most_octets (open_type f) v = 3 + (1 + most_octets f v)
  most_octets (plain fs) v = optionals fs + most_of_fields fs v
  most_octets (sequence fs) v = (1 + optionals fs) + most_of_fields fs v
  most_octets (choice alts) v = 11 + most_of_chosen alts v

  pub most_of_fields : (fs : Fields) → Values fs → ℕ
  most_of_fields done v = 0
  most_of_fields (must f fs) v = most_octets f v.0 + most_of_fields fs v.1
  most_of_fields (may f fs) v = most_of_optional (most_octets f) v.0 + most_of_fields fs v.1
  most_of_fields (skip f fs) v = most_of_fields fs v
  most_of_fields (fixed lo hi n fs) v = 10 + most_of_fields fs v
  most_of_fields (marked lo hi n fs) v = 10 + most_of_fields fs v

  pub most_of_chosen : (alts : Alternatives) → Chosen alts → ℕ
  most_of_chosen (last f) v = most_octets f v
  most_of_chosen (either f alts) (inl v) = most_octets f v
  most_of_chosen (either f alts) (inr v) = most_of_chosen alts v

-- writable but for the lengths of strings without a bound, and of open types
abbrev mutual
  pub in_range : (f : Format) → Value f → Bool
  in_range (number lo hi) n = number_fits lo hi n
  in_range (octets n) os = (length os) == n && all_below 256 os
  in_range (octets_between lo hi) os = number_fits lo hi (length os) && all_below 256 os
  in_range octet_string os = all_below 256 os
  in_range (bit_string n) b = (length b) == n
  in_range (bits_between lo hi) b = number_fits lo hi (length b)
  in_range (enumerated n) v = name_fits n v
  in_range (closed f) v = in_range f v
  in_range (items lo hi f) vs = number_fits lo hi (length vs) && each_fits (in_range f) vs
  in_range (open_type f) v = in_range f v
  in_range (plain fs) v = fields_in_range fs v
  in_range (sequence fs) v = fields_in_range fs v
  in_range (choice alts) v = number_fits 0 (alternatives alts - 1) (index_of alts v) && chosen_in_range alts v

  pub fields_in_range : (fs : Fields) → Values fs → Bool
  fields_in_range done v = true
  fields_in_range (must f fs) v = in_range f v.0 && fields_in_range fs v.1
  fields_in_range (may f fs) v = optional_fits (in_range f) v.0 && fields_in_range fs v.1
  fields_in_range (skip f fs) v = fields_in_range fs v
  fields_in_range (fixed lo hi n fs) v = number_fits lo hi n && fields_in_range fs v
  fields_in_range (marked lo hi n fs) v = number_fits lo hi n && fields_in_range fs v

  pub chosen_in_range : (alts : Alternatives) → Chosen alts → Bool
  chosen_in_range (last f) v = in_range f v
  chosen_in_range (either f alts) (inl v) = in_range f v
  chosen_in_range (either f alts) (inr v) = chosen_in_range alts v

-- ---- messages

-- the elements that stand, each with its id, criticality and length
abbrev pub most_of_rows : (rs : Rows) → Kept rs → ℕ
most_of_rows end v = 0
most_of_rows (ie id c needed f rs) v = (24 + most_octets f v.0) + most_of_rows rs v.1
most_of_rows (ie id c optional f rs) (None, v) = most_of_rows rs v
most_of_rows (ie id c optional f rs) (Some x, v) = (24 + most_octets f x) + most_of_rows rs v
most_of_rows (ie id c unkept f rs) v = most_of_rows rs v

-- ids of 16 bits, and the values of the elements that stand
abbrev pub rows_in_range : (rs : Rows) → Kept rs → Bool
rows_in_range end v = true
rows_in_range (ie id c needed f rs) v = nat_le id 65535 && (in_range f v.0 && rows_in_range rs v.1)
rows_in_range (ie id c optional f rs) (None, v) = rows_in_range rs v
rows_in_range (ie id c optional f rs) (Some x, v) = nat_le id 65535 && (in_range f x && rows_in_range rs v)
rows_in_range (ie id c unkept f rs) v = rows_in_range rs v

-- each value is in range, and there are at most 16000 octets
pub record IsShortMessage (m : Pdu (List ℕ)) : Type 0 where
  pub ranges : rows_in_range (rows_of (typed m).0) (typed m).1 ≡ true
  pub size : most_of_rows (rows_of (typed m).0) (typed m).1 ≤ 16000
