-- What is written depends on where in an octet it begins, and on nothing else before it.
use Rattle.std.proofs.Common.{◌≡◌, ℕ, ◌+◌, ◌-◌, ◌%◌, Bool, false, cond, ltb, List, [], ◌∷◌, ◌++◌, length, replicate, Option, Some, None, refl, ap, ◌∙◌, inl, inr, ◌⊎◌, arith}
use Rattle.per_streams.specs.Bits.{bits, octet_bits, pad, padded}
use Rattle.per_streams.specs.Numbers.{offset_bits, octets_for, whole, width_of}
use Rattle.per_bits.specs.Formats.{Format, number, octets, octets_between, octet_string, bit_string, bits_between, enumerated, closed, items, open_type, plain, sequence, choice, Fields, done, must, may, skip, fixed, marked, Alternatives, last, either, Value, Values, Chosen, alternatives}
use Rattle.per_bits.specs.Spelling.{length_octets}
use Rattle.per_bits.specs.Writing.{presence, index_of}
use Rattle.per_bits.specs.Written.{aligned_form, length_form, string_form, name_form, each_form, optional_form, written, written_fields, written_chosen}

-- the same from two places of one kind
abbrev pub IsSame : (ℕ → List Bool) → Type 0
IsSame x = (a b : ℕ) → a % 8 ≡ b % 8 → x a ≡ x b

further : (a b n : ℕ) → a % 8 ≡ b % 8 → (a + n) % 8 ≡ (b + n) % 8
further a b n h = omega (arith, h)

pub pad_same : IsSame pad
pad_same a b h = ap (λ r. replicate ((8 - r) % 8) false) h

-- one part after another
pub two : (x y : ℕ → List Bool) → IsSame x → IsSame y → IsSame (λ at. x at ++ y (at + length (x at)))
two x y hx hy a b h =
    ap (λ (l : List Bool). l ++ y (a + length l)) (hx a b h)
    ∙ ap (λ (l : List Bool). x b ++ l) (hy (a + length (x b)) (b + length (x b)) (further a b (length (x b)) h))

-- after some bits that stand anywhere
pub after : (xs : List Bool) (y : ℕ → List Bool) → IsSame y → IsSame (λ at. xs ++ y (at + length xs))
after xs y hy a b h = ap (λ (l : List Bool). xs ++ l) (hy (a + length xs) (b + length xs) (further a b (length xs) h))

whole_same : (lo hi n : ℕ) → IsSame (whole lo hi n)
unfolding offset_bits
whole_same lo hi n a b h =
    let count : List Bool = bits (width_of (octets_for (hi - lo) - 1)) (octets_for (n - lo) - 1) in
    rw (pad_same a b h, pad_same (a + length count) (b + length count) (further a b (length count) h)) refl

aligned_same : (os : List ℕ) → IsSame (aligned_form os)
aligned_same os a b h = ap (λ (l : List Bool). l ++ octet_bits os) (pad_same a b h)

string_same : (os : List ℕ) → IsSame (string_form os)
string_same os =
    two (length_form (length os)) (aligned_form os)
    (λ a b h. ap (λ (l : List Bool). l ++ octet_bits (length_octets (length os))) (pad_same a b h)) (aligned_same os)

name_same : (n : ℕ) (v : ℕ ⊎ ℕ) → IsSame (name_form n v)
name_same n (inl k) a b h = ap (λ (l : List Bool). false ∷ l) (whole_same 0 n k (a + 1) (b + 1) (further a b 1 h))
name_same n (inr k) a b h = refl

each_same : {A : Type 0} (w : A → ℕ → List Bool) → ((v : A) → IsSame (w v)) → (vs : List A) → IsSame (each_form w vs)
each_same w hw [] a b h = refl
each_same w hw (v ∷ more) a b h = two (w v) (each_form w more) (hw v) (each_same w hw more) a b h

optional_same : {A : Type 0} (w : A → ℕ → List Bool) → ((v : A) → IsSame (w v)) → (o : Option A) → IsSame (optional_form w o)
optional_same w hw None a b h = refl
optional_same w hw (Some v) a b h = hw v a b h

mutual
  pub written_same : (f : Format) (v : Value f) → IsSame (written f v)
  written_same (number lo hi) n = whole_same lo hi n
  written_same (octets n) os = λ a b h. ap (λ (l : List Bool). cond (ltb n 3) (octet_bits os) l) (aligned_same os a b h)
  written_same (octets_between lo hi) os =
      two (whole lo hi (length os)) (aligned_form os) (whole_same lo hi (length os)) (aligned_same os)
  written_same octet_string os = string_same os
  written_same (bit_string n) b = λ i j h. ap (λ (l : List Bool). cond (ltb n 17) b (l ++ b)) (pad_same i j h)
  written_same (bits_between lo hi) b =
      two (whole lo hi (length b)) (λ at. pad at ++ b) (whole_same lo hi (length b))
      (λ i j h. ap (λ (l : List Bool). l ++ b) (pad_same i j h))
  written_same (enumerated n) v = name_same n v
  written_same (closed f) v = λ a b h. ap (λ (l : List Bool). false ∷ l) (written_same f v (a + 1) (b + 1) (further a b 1 h))
  written_same (items lo hi f) vs =
      two (whole lo hi (length vs)) (each_form (written f) vs) (whole_same lo hi (length vs))
      (each_same (written f) (written_same f) vs)
  written_same (open_type f) v = string_same (padded (written f v 0))
  written_same (plain fs) v = after (presence fs v) (written_fields fs v) (fields_same fs v)
  written_same (sequence fs) v = after (false ∷ presence fs v) (written_fields fs v) (fields_same fs v)
  written_same (choice alts) v =
      two (λ at. false ∷ whole 0 (alternatives alts - 1) (index_of alts v) (at + 1)) (written_chosen alts v)
      (λ a b h. ap (λ (l : List Bool). false ∷ l)
      (whole_same 0 (alternatives alts - 1) (index_of alts v) (a + 1) (b + 1) (further a b 1 h)))
      (chosen_same alts v)

  fields_same : (fs : Fields) (v : Values fs) → IsSame (written_fields fs v)
  fields_same done v = λ a b h. refl
  fields_same (must f fs) v = two (written f v.0) (written_fields fs v.1) (written_same f v.0) (fields_same fs v.1)
  fields_same (may f fs) v =
      two (optional_form (written f) v.0) (written_fields fs v.1) (optional_same (written f) (written_same f) v.0)
      (fields_same fs v.1)
  fields_same (skip f fs) v = fields_same fs v
  fields_same (fixed lo hi n fs) v = two (whole lo hi n) (written_fields fs v) (whole_same lo hi n) (fields_same fs v)
  fields_same (marked lo hi n fs) v = two (whole lo hi n) (written_fields fs v) (whole_same lo hi n) (fields_same fs v)

  chosen_same : (alts : Alternatives) (v : Chosen alts) → IsSame (written_chosen alts v)
  chosen_same (last f) v = written_same f v
  chosen_same (either f alts) (inl v) = written_same f v
  chosen_same (either f alts) (inr v) = chosen_same alts v
