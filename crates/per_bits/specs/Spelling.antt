-- Which bits spell a value (X.691, 11/2008).
use Rattle.std.specs.Prelude.{◌≡◌, ℕ, zero, suc, ◌+◌, ◌-◌, ◌^◌, ◌/◌, ◌%◌, ◌<◌, ◌≤◌, Bool, true, false, if◌then◌else◌, nat_lt, List, [], ◌∷◌, ◌++◌, length, Option, Some, None, ◌⊎◌}
use Rattle.std.proofs.Common.{inl, inr}
use Rattle.per_streams.specs.Bits.{octet_bits, pad, IsBytes}
use Rattle.per_streams.specs.Each.{SpellsEach}
use Rattle.per_streams.specs.Numbers.{whole}
use Rattle.per_bits.specs.Formats.{Format, Fields, Alternatives, Value, Values, Chosen, optionals, alternatives, flag_of, flags_after, number, octets, octets_between, octet_string, bit_string, bits_between, enumerated, closed, items, open_type, plain, sequence, choice, done, must, may, skip, fixed, marked, last, either}

abbrev pub IfSomeOr : {A : Type 0} → Option A → Type 0 → (A → Type 0) → Type 0
IfSomeOr None N P = N
IfSomeOr (Some a) N P = P a

abbrev pub IfLeft : {A B : Type 0} → A ⊎ B → (A → Type 0) → Type 0
IfLeft (inl a) P = P a
IfLeft (inr b) P = ⊥

abbrev pub IfRight : {A B : Type 0} → A ⊎ B → (B → Type 0) → Type 0
IfRight (inl a) P = ⊥
IfRight (inr b) P = P b

-- ---- spelling

-- a number of lo..hi (X.691 clauses 11.5 and 13)
abbrev pub SpellsNumber : ℕ → ℕ → ℕ → ℕ → List Bool → Type 0
SpellsNumber lo hi n at bs = (lo ≤ n) × (n - lo ≤ hi - lo) × (n - lo < 2 ^ 64) × (bs ≡ whole lo hi n at)

-- strings of one or two octets are not aligned (X.691 clause 17)
abbrev pub SpellsOctets : ℕ → List ℕ → ℕ → List Bool → Type 0
SpellsOctets n os at bs = (length os ≡ n) × IsBytes os × (bs ≡ (if nat_lt n 3 then octet_bits os else pad at ++ octet_bits os))

abbrev pub SpellsAligned : ℕ → List ℕ → ℕ → List Bool → Type 0
SpellsAligned n os at bs = (length os ≡ n) × IsBytes os × (bs ≡ pad at ++ octet_bits os)

-- strings of up to 16 bits are not aligned (X.691 clause 16)
abbrev pub SpellsBits : ℕ → List Bool → ℕ → List Bool → Type 0
SpellsBits n b at bs = (length b ≡ n) × (bs ≡ (if nat_lt n 17 then b else pad at ++ b))

abbrev pub SpellsAlignedBits : ℕ → List Bool → ℕ → List Bool → Type 0
SpellsAlignedBits n b at bs = (length b ≡ n) × (bs ≡ pad at ++ b)

-- a length without a bound (X.691 clause 11.9)
abbrev pub length_octets : ℕ → List ℕ
length_octets n = if nat_lt n 128 then n ∷ [] else (128 + n / 256) ∷ (n % 256) ∷ []

abbrev pub SpellsLength : ℕ → ℕ → List Bool → Type 0
SpellsLength n at bs = (n < 16384) × (bs ≡ pad at ++ octet_bits (length_octets n))

abbrev pub SpellsString : List ℕ → ℕ → List Bool → Type 0
SpellsString os at bs =
    (xs : List Bool) × (ys : List Bool) × (bs ≡ xs ++ ys)
    × SpellsLength (length os) at xs × SpellsAligned (length os) os (at + length xs) ys

-- a bit that is 0, and what follows it
abbrev pub SpellsClosed : {A : Type 0} → (A → ℕ → List Bool → Type 0) → A → ℕ → List Bool → Type 0
SpellsClosed S a at bs = (xs : List Bool) × (bs ≡ false ∷ xs) × S a (at + 1) xs

abbrev pub SpellsEnumerated : ℕ → ℕ ⊎ ℕ → ℕ → List Bool → Type 0
SpellsEnumerated n (inl k) at bs = (xs : List Bool) × (bs ≡ false ∷ xs) × SpellsNumber 0 n k (at + 1) xs
SpellsEnumerated n (inr k) at bs = (xs : List Bool) × (bs ≡ true ∷ xs) × SpellsClosed (SpellsNumber 0 63) k (at + 1) xs

abbrev pub SpellsOptional : {A : Type 0} → Bool → (A → ℕ → List Bool → Type 0) → Option A → ℕ → List Bool → Type 0
SpellsOptional false S o at bs = (o ≡ None) × (bs ≡ [])
SpellsOptional true S o at bs = IfSomeOr o ⊥ (λ a. S a at bs)

-- something may stand that is not kept
abbrev pub SpellsSkipped : {A : Type 0} → Bool → (A → ℕ → List Bool → Type 0) → ℕ → List Bool → Type 0
SpellsSkipped {A} false S at bs = bs ≡ []
SpellsSkipped {A} true S at bs = (a : A) × S a at bs

-- how many of the bits are 1
abbrev pub trues : List Bool → ℕ
trues [] = 0
trues (true ∷ bs) = suc (trues bs)
trues (false ∷ bs) = trues bs

-- extension additions (X.691 clause 19.7): their number, a presence bit each, and the octets of each that stands
abbrev pub SpellsAdditions : List (List ℕ) → ℕ → List Bool → Type 0
SpellsAdditions oss at bs =
    (more : ℕ) × (xs : List Bool) × (flags : List Bool) × (ys : List Bool) × (bs ≡ xs ++ (flags ++ ys))
    × SpellsClosed (SpellsNumber 0 63) more at xs
    × (length flags ≡ more + 1) × (length oss ≡ trues flags) × SpellsEach SpellsString oss (at + length xs + length flags) ys

-- a whole octet string that spells a value
abbrev pub Whole : {A : Type 0} → (A → ℕ → List Bool → Type 0) → A → List ℕ → Type 0
Whole S a os = (bs : List Bool) × (octet_bits os ≡ bs ++ pad (length bs)) × S a 0 bs

abbrev mutual
  pub Spells : (f : Format) → Value f → ℕ → List Bool → Type 0
  Spells (number lo hi) n at bs = SpellsNumber lo hi n at bs
  Spells (octets n) os at bs = SpellsOctets n os at bs
  Spells (octets_between lo hi) os at bs =
      (xs : List Bool) × (ys : List Bool) × (bs ≡ xs ++ ys)
      × SpellsNumber lo hi (length os) at xs × SpellsAligned (length os) os (at + length xs) ys
  Spells octet_string os at bs = SpellsString os at bs
  Spells (bit_string n) b at bs = SpellsBits n b at bs
  Spells (bits_between lo hi) b at bs =
      (xs : List Bool) × (ys : List Bool) × (bs ≡ xs ++ ys)
      × SpellsNumber lo hi (length b) at xs × SpellsAlignedBits (length b) b (at + length xs) ys
  Spells (enumerated n) v at bs = SpellsEnumerated n v at bs
  Spells (closed f) v at bs = SpellsClosed (Spells f) v at bs
  Spells (items lo hi f) vs at bs =
      (xs : List Bool) × (ys : List Bool) × (bs ≡ xs ++ ys)
      × SpellsNumber lo hi (length vs) at xs × SpellsEach (Spells f) vs (at + length xs) ys
  Spells (open_type f) v at bs = (os : List ℕ) × SpellsString os at bs × Whole (Spells f) v os
  Spells (plain fs) v at bs =
      (flags : List Bool) × (ys : List Bool) × (bs ≡ flags ++ ys)
      × (length flags ≡ optionals fs) × SpellsFields fs flags v (at + length flags) ys
  Spells (sequence fs) v at bs =
      (flags : List Bool) × (ys : List Bool) × (zs : List Bool) × (bs ≡ flags ++ (ys ++ zs)) × (length flags ≡ suc (optionals fs))
      × SpellsFields fs (flags_after flags) v (at + length flags) ys
      × SpellsSkipped (flag_of flags) SpellsAdditions (at + length flags + length ys) zs
  Spells (choice alts) v at bs =
      (i : ℕ) × (xs : List Bool) × (ys : List Bool) × (bs ≡ xs ++ ys)
      × SpellsClosed (SpellsNumber 0 (alternatives alts - 1)) i at xs × SpellsChosen alts i v (at + length xs) ys

  pub SpellsFields : (fs : Fields) → List Bool → Values fs → ℕ → List Bool → Type 0
  SpellsFields done flags v at bs = bs ≡ []
  SpellsFields (must f fs) flags v at bs =
      (xs : List Bool) × (ys : List Bool) × (bs ≡ xs ++ ys)
      × Spells f v.0 at xs × SpellsFields fs flags v.1 (at + length xs) ys
  SpellsFields (may f fs) flags v at bs =
      (xs : List Bool) × (ys : List Bool) × (bs ≡ xs ++ ys)
      × SpellsOptional (flag_of flags) (Spells f) v.0 at xs × SpellsFields fs (flags_after flags) v.1 (at + length xs) ys
  SpellsFields (skip f fs) flags v at bs =
      (xs : List Bool) × (ys : List Bool) × (bs ≡ xs ++ ys)
      × SpellsSkipped (flag_of flags) (Spells f) at xs × SpellsFields fs (flags_after flags) v (at + length xs) ys
  SpellsFields (fixed lo hi n fs) flags v at bs =
      (xs : List Bool) × (ys : List Bool) × (bs ≡ xs ++ ys)
      × SpellsNumber lo hi n at xs × SpellsFields fs flags v (at + length xs) ys
  SpellsFields (marked lo hi n fs) flags v at bs =
      (any : ℕ) × (xs : List Bool) × (ys : List Bool) × (bs ≡ xs ++ ys)
      × SpellsNumber lo hi any at xs × SpellsFields fs flags v (at + length xs) ys

  pub SpellsChosen : (alts : Alternatives) → ℕ → Chosen alts → ℕ → List Bool → Type 0
  SpellsChosen (last f) i v at bs = (i ≡ 0) × Spells f v at bs
  SpellsChosen (either f alts) zero v at bs = IfLeft v (λ x. Spells f x at bs)
  SpellsChosen (either f alts) (suc i) v at bs = IfRight v (λ y. SpellsChosen alts i y at bs)

abbrev pub SpellsWhole : (f : Format) → Value f → List ℕ → Type 0
SpellsWhole f v os = Whole (Spells f) v os
