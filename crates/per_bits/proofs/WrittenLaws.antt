-- Writing gives the written spelling of a writable value, and refuses any other as out of range.
use Rattle.std.proofs.Common.{◌≡◌, ℕ, ◌+◌, ◌-◌, ◌&&◌, Bool, true, false, cond, ltb, eqb, List, [], ◌∷◌, ◌++◌, length, Option, Some, None, Result, Ok, Err, refl, sym, ap, ◌∙◌, append_assoc, inl, inr, ◌⊎◌}
use Rattle.std.proofs.lemmas.List.{length-append, append-nil}
use Rattle.per_streams.specs.declared.fault.PerFault.{PerFault}
use Rattle.per_streams.specs.declared.fault.PerFault.TheVariants.{Range}
use Rattle.per_streams.specs.Octet.{all_below}
use Rattle.per_streams.specs.Bits.{octet_bits, pad, ◌>>=◌, padded}
use Rattle.per_streams.specs.Numbers.{whole}
use Rattle.per_bits.specs.Formats.{Format, number, octets, octets_between, octet_string, bit_string, bits_between, enumerated, closed, items, open_type, plain, sequence, choice, Fields, done, must, may, skip, fixed, marked, Alternatives, last, either, Value, Values, Chosen, alternatives}
use Rattle.per_bits.specs.Writing.{presence, index_of, write_at, write_fields, write_chosen, write_octets, write_aligned, write_length, write_string, write_bits, write_enumerated, write_each, write_whole, write_optional}
use Rattle.per_streams.specs.Writing.{write_number}
use Rattle.per_bits.specs.Written.{aligned_form, length_form, string_form, name_form, each_form, optional_form, written, written_fields, written_chosen, number_fits, string_fits, name_fits, each_fits, optional_fits, writable, writable_fields, writable_chosen}

-- bits after the bits so far where a test holds, and else Range
abbrev pub put_if : Bool → List Bool → List Bool → Result (List Bool) PerFault
put_if b out xs = cond b (Ok (out ++ xs)) (Err Range)

-- where the second part stands
place : (ys : ℕ → List Bool) (out xs : List Bool)
    → (out ++ xs) ++ ys (length (out ++ xs)) ≡ out ++ (xs ++ ys (length out + length xs))
place ys out xs = ap (λ n. (out ++ xs) ++ ys n) (length-append out xs) ∙ append_assoc out xs (ys (length out + length xs))

pub put_after : (b : Bool) (ys : ℕ → List Bool) (out xs : List Bool)
    → put_if b (out ++ xs) (ys (length (out ++ xs))) ≡ put_if b out (xs ++ ys (length out + length xs))
put_after true ys out xs = ap (λ (l : List Bool). Ok l) (place ys out xs)
put_after false ys out xs = refl

-- one part and then another
in_turn : (a b : Bool) (out xs : List Bool) (ys : ℕ → List Bool) (k : List Bool → Result (List Bool) PerFault)
    → ((mid : List Bool) → k mid ≡ put_if b mid (ys (length mid)))
    → (put_if a out xs >>= k) ≡ put_if (a && b) out (xs ++ ys (length out + length xs))
in_turn true b out xs ys k h = h (out ++ xs) ∙ put_after b ys out xs
in_turn false b out xs ys k h = refl

pub both : (a b : Bool) (out xs : List Bool) (ys : ℕ → List Bool) (r : Result (List Bool) PerFault)
    (k : List Bool → Result (List Bool) PerFault)
    → r ≡ put_if a out xs
    → ((mid : List Bool) → k mid ≡ put_if b mid (ys (length mid)))
    → (r >>= k) ≡ put_if (a && b) out (xs ++ ys (length out + length xs))
both a b out xs ys r k e h = ap (λ (q : Result (List Bool) PerFault). q >>= k) e ∙ in_turn a b out xs ys k h

number_written : (lo hi n : ℕ) (out : List Bool)
    → write_number lo hi n out ≡ put_if (number_fits lo hi n) out (whole lo hi n (length out))
unfolding write_number
number_written lo hi n out = refl

aligned_written : (os : List ℕ) (out : List Bool)
    → write_aligned os out ≡ put_if (all_below 256 os) out (aligned_form os (length out))
unfolding write_aligned
aligned_written os out = refl

length_written : (n : ℕ) (out : List Bool) → write_length n out ≡ put_if (ltb n 16384) out (length_form n (length out))
unfolding write_length
length_written n out = refl

string_written : (os : List ℕ) (out : List Bool) → write_string os out ≡ put_if (string_fits os) out (string_form os (length out))
unfolding write_string
string_written os out =
    both (ltb (length os) 16384) (all_below 256 os) out (length_form (length os) (length out)) (aligned_form os)
    (write_length (length os) out) (write_aligned os) (length_written (length os) out) (aligned_written os)

pick : (b c : Bool) (out xs ys : List Bool)
    → cond b (Ok (cond c (out ++ xs) (out ++ ys ++ xs))) (Err Range) ≡ put_if b out (cond c xs (ys ++ xs))
pick true true out xs ys = refl
pick true false out xs ys = ap (λ (l : List Bool). Ok l) (append_assoc out ys xs)
pick false c out xs ys = refl

octets_written : (n : ℕ) (os : List ℕ) (out : List Bool)
    → write_octets n os out ≡ put_if (writable (octets n) os) out (written (octets n) os (length out))
unfolding write_octets
octets_written n os out = pick (eqb (length os) n && all_below 256 os) (ltb n 3) out (octet_bits os) (pad (length out))

choose : (b c : Bool) (out xs ys : List Bool)
    → cond b (Ok (cond c (out ++ xs) (out ++ (ys ++ xs)))) (Err Range) ≡ put_if b out (cond c xs (ys ++ xs))
choose true true out xs ys = refl
choose true false out xs ys = refl
choose false c out xs ys = refl

bits_written : (n : ℕ) (b out : List Bool)
    → write_bits n b out ≡ put_if (eqb (length b) n) out (cond (ltb n 17) b (pad (length out) ++ b))
unfolding write_bits
bits_written n b out = choose (eqb (length b) n) (ltb n 17) out b (pad (length out))

true_last : (b : Bool) (out xs : List Bool) → put_if (b && true) out xs ≡ put_if b out xs
true_last true out xs = refl
true_last false out xs = refl

bits_between_written : (lo hi : ℕ) (b out : List Bool)
    → write_at (bits_between lo hi) b out ≡ put_if (number_fits lo hi (length b)) out (written (bits_between lo hi) b (length out))
bits_between_written lo hi b out =
    both (number_fits lo hi (length b)) true out (whole lo hi (length b) (length out)) (λ at. pad at ++ b)
    (write_number lo hi (length b) out) (λ counted. Ok (counted ++ (pad (length counted) ++ b)))
    (number_written lo hi (length b) out) (λ mid. refl)
    ∙ true_last (number_fits lo hi (length b)) out _

name_written : (n : ℕ) (v : ℕ ⊎ ℕ) (out : List Bool)
    → write_enumerated n v out ≡ put_if (name_fits n v) out (name_form n v (length out))
name_written n (inl k) out =
    number_written 0 n k (out ++ false ∷ []) ∙ put_after (number_fits 0 n k) (λ at. whole 0 n k at) out (false ∷ [])
name_written n (inr k) out = refl

each_written : {A : Type 0} (w : A → List Bool → Result (List Bool) PerFault) (p : A → Bool) (x : A → ℕ → List Bool)
    → ((a : A) (out : List Bool) → w a out ≡ put_if (p a) out (x a (length out)))
    → (vs : List A) (out : List Bool) → write_each w vs out ≡ put_if (each_fits p vs) out (each_form x vs (length out))
unfolding write_each
each_written w p x h [] out = ap (λ (l : List Bool). Ok l) (sym (append-nil out))
each_written w p x h (a ∷ more) out =
    both (p a) (each_fits p more) out (x a (length out)) (each_form x more) (w a out) (write_each w more) (h a out)
    (each_written w p x h more)

optional_written : {A : Type 0} (w : A → List Bool → Result (List Bool) PerFault) (p : A → Bool) (x : A → ℕ → List Bool)
    → ((a : A) (out : List Bool) → w a out ≡ put_if (p a) out (x a (length out)))
    → (o : Option A) (out : List Bool) → write_optional w o out ≡ put_if (optional_fits p o) out (optional_form x o (length out))
optional_written w p x h None out = ap (λ (l : List Bool). Ok l) (sym (append-nil out))
optional_written w p x h (Some a) out = h a out

whole_if : (b : Bool) (xs : List Bool) → (put_if b [] xs >>= λ bs. Ok (padded bs)) ≡ cond b (Ok (padded xs)) (Err Range)
whole_if true xs = refl
whole_if false xs = refl

pub whole_written : {A : Type 0} (w : A → List Bool → Result (List Bool) PerFault) (a : A) (b : Bool) (xs : List Bool)
    → w a [] ≡ put_if b [] xs → write_whole w a ≡ cond b (Ok (padded xs)) (Err Range)
whole_written w a b xs e = ap (λ (q : Result (List Bool) PerFault). q >>= λ bs. Ok (padded bs)) e ∙ whole_if b xs

string_if : (b : Bool) (os : List ℕ) (out : List Bool)
    → (cond b (Ok os) (Err Range) >>= λ os. write_string os out) ≡ put_if (b && string_fits os) out (string_form os (length out))
string_if true os out = string_written os out
string_if false os out = refl

pub inside_written : {A : Type 0} (w : A → List Bool → Result (List Bool) PerFault) (a : A) (b : Bool) (xs out : List Bool)
    → w a [] ≡ put_if b [] xs
    → (write_whole w a >>= λ os. write_string os out)
    ≡ put_if (b && string_fits (padded xs)) out (string_form (padded xs) (length out))
inside_written w a b xs out e =
    ap (λ (q : Result (List ℕ) PerFault). q >>= λ os. write_string os out) (whole_written w a b xs e) ∙ string_if b (padded xs) out

mutual
  pub writes : (f : Format) (v : Value f) (out : List Bool)
      → write_at f v out ≡ put_if (writable f v) out (written f v (length out))
  writes (number lo hi) n out = number_written lo hi n out
  writes (octets n) os out = octets_written n os out
  writes (octets_between lo hi) os out =
      both (number_fits lo hi (length os)) (all_below 256 os) out (whole lo hi (length os) (length out)) (aligned_form os)
      (write_number lo hi (length os) out) (write_aligned os) (number_written lo hi (length os) out) (aligned_written os)
  writes octet_string os out = string_written os out
  writes (bit_string n) b out = bits_written n b out
  writes (bits_between lo hi) b out = bits_between_written lo hi b out
  writes (enumerated n) v out = name_written n v out
  writes (closed f) v out = writes f v (out ++ false ∷ []) ∙ put_after (writable f v) (written f v) out (false ∷ [])
  writes (items lo hi f) vs out =
      both (number_fits lo hi (length vs)) (each_fits (writable f) vs) out (whole lo hi (length vs) (length out))
      (each_form (written f) vs) (write_number lo hi (length vs) out) (write_each (write_at f) vs)
      (number_written lo hi (length vs) out)
      (each_written (write_at f) (writable f) (written f) (writes f) vs)
  writes (open_type f) v out = inside_written (write_at f) v (writable f v) (written f v 0) out (writes f v [])
  writes (plain fs) v out =
      writes_fields fs v (out ++ presence fs v) ∙ put_after (writable_fields fs v) (written_fields fs v) out (presence fs v)
  writes (sequence fs) v out =
      writes_fields fs v (out ++ false ∷ presence fs v)
      ∙ put_after (writable_fields fs v) (written_fields fs v) out (false ∷ presence fs v)
  writes (choice alts) v out =
      let n : ℕ = alternatives alts - 1 in
      let i : ℕ = index_of alts v in
      let index : write_number 0 n i (out ++ false ∷ []) ≡ put_if (number_fits 0 n i) out (false ∷ whole 0 n i (length out + 1)) =
      number_written 0 n i (out ++ false ∷ []) ∙ put_after (number_fits 0 n i) (λ at. whole 0 n i at) out (false ∷ []) in
      both (number_fits 0 n i) (writable_chosen alts v) out (false ∷ whole 0 n i (length out + 1)) (written_chosen alts v)
      (write_number 0 n i (out ++ false ∷ [])) (write_chosen alts v) index (writes_chosen alts v)

  pub writes_fields : (fs : Fields) (v : Values fs) (out : List Bool)
      → write_fields fs v out ≡ put_if (writable_fields fs v) out (written_fields fs v (length out))
  writes_fields done v out = ap (λ (l : List Bool). Ok l) (sym (append-nil out))
  writes_fields (must f fs) v out =
      both (writable f v.0) (writable_fields fs v.1) out (written f v.0 (length out)) (written_fields fs v.1) (write_at f v.0 out)
      (write_fields fs v.1) (writes f v.0 out) (writes_fields fs v.1)
  writes_fields (may f fs) v out =
      both (optional_fits (writable f) v.0) (writable_fields fs v.1) out (optional_form (written f) v.0 (length out))
      (written_fields fs v.1) (write_optional (write_at f) v.0 out) (write_fields fs v.1)
      (optional_written (write_at f) (writable f) (written f) (writes f) v.0 out) (writes_fields fs v.1)
  writes_fields (skip f fs) v out = writes_fields fs v out
  writes_fields (fixed lo hi n fs) v out =
      both (number_fits lo hi n) (writable_fields fs v) out (whole lo hi n (length out)) (written_fields fs v)
      (write_number lo hi n out) (write_fields fs v) (number_written lo hi n out) (writes_fields fs v)
  writes_fields (marked lo hi n fs) v out =
      both (number_fits lo hi n) (writable_fields fs v) out (whole lo hi n (length out)) (written_fields fs v)
      (write_number lo hi n out) (write_fields fs v) (number_written lo hi n out) (writes_fields fs v)

  pub writes_chosen : (alts : Alternatives) (v : Chosen alts) (out : List Bool)
      → write_chosen alts v out ≡ put_if (writable_chosen alts v) out (written_chosen alts v (length out))
  writes_chosen (last f) v out = writes f v out
  writes_chosen (either f alts) (inl v) out = writes f v out
  writes_chosen (either f alts) (inr v) out = writes_chosen alts v out
