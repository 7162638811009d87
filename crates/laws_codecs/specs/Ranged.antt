-- What is read is in the range that its format gives: each number, each string's octets, and how many a list has.
use Rattle.std.proofs.Common.{inl, inr}
use Rattle.std.specs.Prelude.{◌≡◌, ℕ, ◌-◌, ◌≤◌, List, length, Option, Some, None, Ok}
use Rattle.std.specs.List.{AllByRecursion}
use Rattle.per_streams.specs.Bits.{IsBytes}
use Rattle.per_bits.specs.Formats.{Format, number, octets, octets_between, octet_string, bit_string, bits_between, enumerated, closed, items, open_type, plain, sequence, choice, Fields, done, must, may, skip, fixed, marked, Alternatives, last, either, Value, Values, Chosen}
use Rattle.s1ap_rows.specs.Rows.{Rows, ie, end, needed, optional, unkept, Kept}
use Rattle.s1ap_pdus.specs.declared.pdu.Pdu.{Pdu}
use Rattle.s1ap_pdus.specs.Pdus.{decoded, typed}
use Rattle.s1ap_pdus.specs.Profile.{rows_of}

-- ---- values

abbrev pub RangedIf : {A : Type 0} → (A → Type 0) → Option A → Type 0
RangedIf P None = Unit {0}
RangedIf P (Some a) = P a

abbrev mutual
  pub Ranged : (f : Format) → Value f → Type 0
  Ranged (number lo hi) n = (lo ≤ n) × (n - lo ≤ hi - lo)
  Ranged (octets n) os = (length os ≡ n) × IsBytes os
  Ranged (octets_between lo hi) os = IsBytes os
  Ranged octet_string os = IsBytes os
  Ranged (bit_string n) b = Unit {0}
  Ranged (bits_between lo hi) b = Unit {0}
  Ranged (enumerated n) v = Unit {0}
  Ranged (closed f) v = Ranged f v
  Ranged (items lo hi f) vs = (lo ≤ length vs) × (length vs - lo ≤ hi - lo) × AllByRecursion (Ranged f) vs
  Ranged (open_type f) v = Ranged f v
  Ranged (plain fs) v = AreRanged fs v
  Ranged (sequence fs) v = AreRanged fs v
  Ranged (choice alts) v = ChosenRanged alts v

  pub AreRanged : (fs : Fields) → Values fs → Type 0
  AreRanged done v = Unit {0}
  AreRanged (must f fs) v = Ranged f v.0 × AreRanged fs v.1
  AreRanged (may f fs) v = RangedIf (Ranged f) v.0 × AreRanged fs v.1
  AreRanged (skip f fs) v = AreRanged fs v
  AreRanged (fixed lo hi n fs) v = AreRanged fs v
  AreRanged (marked lo hi n fs) v = AreRanged fs v

  pub ChosenRanged : (alts : Alternatives) → Chosen alts → Type 0
  ChosenRanged (last f) v = Ranged f v
  ChosenRanged (either f alts) (inl v) = Ranged f v
  ChosenRanged (either f alts) (inr v) = ChosenRanged alts v

-- ---- rows

abbrev pub RowsRanged : (rs : Rows) → Kept rs → Type 0
RowsRanged end v = Unit {0}
RowsRanged (ie id c needed f rs) v = Ranged f v.0 × RowsRanged rs v.1
RowsRanged (ie id c optional f rs) v = RowsRanged rs v.1
RowsRanged (ie id c unkept f rs) v = RowsRanged rs v

-- what is decoded: the elements that a message must have
abbrev pub DecodedIsInRange : Type 0
DecodedIsInRange = (m : Pdu (List ℕ)) (os : List ℕ) → decoded os ≡ Ok m → RowsRanged (rows_of (typed m).0) (typed m).1
