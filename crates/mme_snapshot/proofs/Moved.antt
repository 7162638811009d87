-- Which bits spell a value depends on where in an octet they begin, and on nothing else before them.
use Rattle.std.proofs.Common.{◌≡◌, ℕ, zero, suc, ◌+◌, ◌-◌, ◌%◌, ◌∙◌, Bool, true, false, cond, ltb, List, [], ◌∷◌, ◌++◌, length, replicate, Option, Some, None, refl, ap, inl, inr, ◌⊎◌, arith}
use Rattle.per_streams.specs.Bits.{bits, octet_bits, pad}
use Rattle.per_streams.specs.Each.{SpellsEach}
use Rattle.per_streams.specs.Numbers.{offset_bits, octets_for, whole, width_of}
use Rattle.per_bits.specs.Formats.{Format, number, octets, octets_between, octet_string, bit_string, bits_between, enumerated, closed, items, open_type, plain, sequence, choice, Fields, done, must, may, skip, fixed, marked, Alternatives, last, either, Value, Values, Chosen, flag_of, flags_after, alternatives}
use Rattle.per_bits.specs.Spelling.{SpellsAdditions, SpellsAligned, SpellsChosen, SpellsClosed, SpellsEnumerated, SpellsFields, SpellsLength, SpellsNumber, SpellsOptional, SpellsSkipped, SpellsString, Spells, length_octets}

-- what is spelled at a place is spelled at each that stands as far from the next octet
abbrev Moves : {A : Type 0} → (A → ℕ → List Bool → Type 0) → A → Type 0
Moves S a = (i j : ℕ) (bs : List Bool) → i % 8 ≡ j % 8 → S a i bs → S a j bs

further : (i j n : ℕ) → i % 8 ≡ j % 8 → (i + n) % 8 ≡ (j + n) % 8
further i j n h = omega (arith, h)

pub pad_same : (i j : ℕ) → i % 8 ≡ j % 8 → pad i ≡ pad j
pad_same i j h = ap (λ r. replicate ((8 - r) % 8) false) h

whole_same : (lo hi n i j : ℕ) → i % 8 ≡ j % 8 → whole lo hi n i ≡ whole lo hi n j
unfolding offset_bits
whole_same lo hi n i j h =
    let count : List Bool = bits (width_of (octets_for (hi - lo) - 1)) (octets_for (n - lo) - 1) in
    rw (pad_same i j h, pad_same (i + length count) (j + length count) (further i j (length count) h)) refl

number_moves : (lo hi n : ℕ) → Moves (SpellsNumber lo hi) n
number_moves lo hi n i j bs h m = (m.0, m.1, m.2, m.3 ∙ whole_same lo hi n i j h)

aligned_moves : (n : ℕ) (os : List ℕ) → Moves (SpellsAligned n) os
aligned_moves n os i j bs h m = (m.0, m.1, m.2 ∙ ap (λ (l : List Bool). l ++ octet_bits os) (pad_same i j h))

length_moves : (n : ℕ) → Moves SpellsLength n
length_moves n i j bs h m = (m.0, m.1 ∙ ap (λ (l : List Bool). l ++ octet_bits (length_octets n)) (pad_same i j h))

string_moves : (os : List ℕ) → Moves SpellsString os
string_moves os i j bs h m = (
  m.0,
  m.1,
  m.2,
  length_moves (length os) i j m.0 h m.3,
  aligned_moves (length os) os (i + length m.0) (j + length m.0) m.1 (further i j (length m.0) h) m.4,
)

closed_moves : {A : Type 0} (S : A → ℕ → List Bool → Type 0) (a : A) → Moves S a → Moves (SpellsClosed S) a
closed_moves S a more i j bs h m = (m.0, m.1, more (i + 1) (j + 1) m.0 (further i j 1 h) m.2)

name_moves : (n : ℕ) (v : ℕ ⊎ ℕ) → Moves (SpellsEnumerated n) v
name_moves n (inl k) i j bs h m = (m.0, m.1, number_moves 0 n k (i + 1) (j + 1) m.0 (further i j 1 h) m.2)
name_moves n (inr k) i j bs h m =
    (m.0, m.1, closed_moves (SpellsNumber 0 63) k (number_moves 0 63 k) (i + 1) (j + 1) m.0 (further i j 1 h) m.2)

each_moves : {A : Type 0} (S : A → ℕ → List Bool → Type 0) → ((a : A) → Moves S a) → (vs : List A) → Moves (SpellsEach S) vs
each_moves S more [] i j bs h m = m
each_moves S more (v ∷ vs) i j bs h m = (
  m.0,
  m.1,
  m.2,
  more v i j m.0 h m.3,
  each_moves S more vs (i + length m.0) (j + length m.0) m.1 (further i j (length m.0) h) m.4,
)

optional_moves : {A : Type 0} (b : Bool) (S : A → ℕ → List Bool → Type 0) → ((a : A) → Moves S a) → (o : Option A)
    → Moves (SpellsOptional b S) o
optional_moves false S more o i j bs h m = m
optional_moves true S more None i j bs h m = m
optional_moves true S more (Some a) i j bs h m = more a i j bs h m

skipped_moves : {A : Type 0} (b : Bool) (S : A → ℕ → List Bool → Type 0) → ((a : A) → Moves S a) → (i j : ℕ) (bs : List Bool)
    → i % 8 ≡ j % 8 → SpellsSkipped b S i bs → SpellsSkipped b S j bs
skipped_moves false S more i j bs h m = m
skipped_moves true S more i j bs h m = (m.0, more m.0 i j bs h m.1)

additions_move : (oss : List (List ℕ)) → Moves SpellsAdditions oss
additions_move oss i j bs h m = (
  m.0,
  m.1,
  m.2,
  m.3,
  m.4,
  closed_moves (SpellsNumber 0 63) m.0 (number_moves 0 63 m.0) i j m.1 h m.5,
  m.6,
  m.7,
  each_moves SpellsString string_moves oss (i + length m.1 + length m.2) (j + length m.1 + length m.2) m.3
      (further (i + length m.1) (j + length m.1) (length m.2) (further i j (length m.1) h)) m.8,
)

mutual
  pub spells_move : (f : Format) (v : Value f) → Moves (Spells f) v
  spells_move (number lo hi) n i j bs h m = number_moves lo hi n i j bs h m
  spells_move (octets n) os i j bs h m =
      (m.0, m.1, m.2 ∙ ap (λ (l : List Bool). cond (ltb n 3) (octet_bits os) (l ++ octet_bits os)) (pad_same i j h))
  spells_move (octets_between lo hi) os i j bs h m = (
    m.0,
    m.1,
    m.2,
    number_moves lo hi (length os) i j m.0 h m.3,
    aligned_moves (length os) os (i + length m.0) (j + length m.0) m.1 (further i j (length m.0) h) m.4,
  )
  spells_move octet_string os i j bs h m = string_moves os i j bs h m
  spells_move (bit_string n) b i j bs h m =
      (m.0, m.1 ∙ ap (λ (l : List Bool). cond (ltb n 17) b (l ++ b)) (pad_same i j h))
  spells_move (bits_between lo hi) b i j bs h m = (
    m.0,
    m.1,
    m.2,
    number_moves lo hi (length b) i j m.0 h m.3,
    (m.4.0, m.4.1 ∙ ap (λ (l : List Bool). l ++ b) (pad_same (i + length m.0) (j + length m.0) (further i j (length m.0) h))),
  )
  spells_move (enumerated n) v i j bs h m = name_moves n v i j bs h m
  spells_move (closed f) v i j bs h m = closed_moves (Spells f) v (spells_move f v) i j bs h m
  spells_move (items lo hi f) vs i j bs h m = (
    m.0,
    m.1,
    m.2,
    number_moves lo hi (length vs) i j m.0 h m.3,
    each_moves (Spells f) (spells_move f) vs (i + length m.0) (j + length m.0) m.1 (further i j (length m.0) h) m.4,
  )
  spells_move (open_type f) v i j bs h m = (m.0, string_moves m.0 i j bs h m.1, m.2)
  spells_move (plain fs) v i j bs h m =
      (m.0, m.1, m.2, m.3, fields_move fs m.0 v (i + length m.0) (j + length m.0) m.1 (further i j (length m.0) h) m.4)
  spells_move (sequence fs) v i j bs h m = (
    m.0,
    m.1,
    m.2,
    m.3,
    m.4,
    fields_move fs (flags_after m.0) v (i + length m.0) (j + length m.0) m.1 (further i j (length m.0) h) m.5,
    skipped_moves (flag_of m.0) SpellsAdditions additions_move (i + length m.0 + length m.1) (j + length m.0 + length m.1) m.2
        (further (i + length m.0) (j + length m.0) (length m.1) (further i j (length m.0) h)) m.6,
  )
  spells_move (choice alts) v i j bs h m = (
    m.0,
    m.1,
    m.2,
    m.3,
    closed_moves (SpellsNumber 0 (alternatives alts - 1)) m.0 (number_moves 0 (alternatives alts - 1) m.0) i j m.1 h m.4,
    chosen_moves alts m.0 v (i + length m.1) (j + length m.1) m.2 (further i j (length m.1) h) m.5,
  )

  fields_move : (fs : Fields) (flags : List Bool) (v : Values fs) → Moves (SpellsFields fs flags) v
  fields_move done flags v i j bs h m = m
  fields_move (must f fs) flags v i j bs h m = (
    m.0,
    m.1,
    m.2,
    spells_move f v.0 i j m.0 h m.3,
    fields_move fs flags v.1 (i + length m.0) (j + length m.0) m.1 (further i j (length m.0) h) m.4,
  )
  fields_move (may f fs) flags v i j bs h m = (
    m.0,
    m.1,
    m.2,
    optional_moves (flag_of flags) (Spells f) (spells_move f) v.0 i j m.0 h m.3,
    fields_move fs (flags_after flags) v.1 (i + length m.0) (j + length m.0) m.1 (further i j (length m.0) h) m.4,
  )
  fields_move (skip f fs) flags v i j bs h m = (
    m.0,
    m.1,
    m.2,
    skipped_moves (flag_of flags) (Spells f) (spells_move f) i j m.0 h m.3,
    fields_move fs (flags_after flags) v (i + length m.0) (j + length m.0) m.1 (further i j (length m.0) h) m.4,
  )
  fields_move (fixed lo hi n fs) flags v i j bs h m = (
    m.0,
    m.1,
    m.2,
    number_moves lo hi n i j m.0 h m.3,
    fields_move fs flags v (i + length m.0) (j + length m.0) m.1 (further i j (length m.0) h) m.4,
  )
  fields_move (marked lo hi n fs) flags v i j bs h m = (
    m.0,
    m.1,
    m.2,
    m.3,
    number_moves lo hi m.0 i j m.1 h m.4,
    fields_move fs flags v (i + length m.1) (j + length m.1) m.2 (further i j (length m.1) h) m.5,
  )

  chosen_moves : (alts : Alternatives) (k : ℕ) (v : Chosen alts) → Moves (SpellsChosen alts k) v
  chosen_moves (last f) k v i j bs h m = (m.0, spells_move f v i j bs h m.1)
  chosen_moves (either f alts) zero (inl v) i j bs h m = spells_move f v i j bs h m
  chosen_moves (either f alts) zero (inr v) i j bs h m = m
  chosen_moves (either f alts) (suc k) (inl v) i j bs h m = m
  chosen_moves (either f alts) (suc k) (inr v) i j bs h m = chosen_moves alts k v i j bs h m
