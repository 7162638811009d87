-- The words of a line: its parts between spaces.
use Rattle.std.proofs.Common.{◌≡◌, ℕ, ◌+◌, ◌<◌, ◌≤◌, ◌==◌, Bool, true, false, cond, List, [], ◌∷◌, ◌++◌, length, refl, ap, ◌∙◌, arith, length-append}
use Rattle.std.specs.List.{slice_split, onto_first}
use Rattle.std.proofs.lemmas.List.Splits.{slice_split-cons_no}
use Rattle.trace_words.specs.Trace.{◌␣◌}
use Rattle.trace_words.specs.Lines.{is_unbroken}
use Rattle.trace_words.specs.WordLaws.{is_word, word_parts, word_unbroken, unbroken_append}

pub unbroken_field : (t f : List ℕ) → is_unbroken t ≡ true → is_word f ≡ true → is_unbroken (t ␣ f) ≡ true
unbroken_field t f h k = unbroken_append t (32 ∷ f) h (word_unbroken f k)

-- ---- a line into its words

pub split_word : (w : List ℕ) → is_word w ≡ true → slice_split (λ c. c == 32) w ≡ w ∷ []
split_word [] h = refl
split_word (c ∷ cs) h =
    let p = word_parts c cs h in
    slice_split-cons_no (λ c. c == 32) c cs p.0 ∙ ap (onto_first c) (split_word cs p.2)

onto_more : (c : ℕ) (parts : List (List ℕ)) (w : List ℕ) → 0 < length parts
    → onto_first c (parts ++ w ∷ []) ≡ onto_first c parts ++ w ∷ []
onto_more c [] w h = absurd (omega arith)
onto_more c (p ∷ ps) w h = refl

onto_some : (c : ℕ) (parts : List (List ℕ)) → 0 < length (onto_first c parts)
onto_some c [] = omega arith
onto_some c (p ∷ ps) = omega arith

split_some : (t : List ℕ) → 0 < length (slice_split (λ c. c == 32) t)
split_some [] = omega arith
split_some (c ∷ cs) = go (c == 32)
  where
    go : (b : Bool) → 0 < length (cond b ([] ∷ slice_split (λ c. c == 32) cs) (onto_first c (slice_split (λ c. c == 32) cs)))
    go true = omega arith
    go false = onto_some c (slice_split (λ c. c == 32) cs)

pub split-field : (t f : List ℕ) → is_word f ≡ true → slice_split (λ c. c == 32) (t ␣ f) ≡ slice_split (λ c. c == 32) t ++ f ∷ []
split-field [] f h = ap (λ v. [] ∷ v) (split_word f h)
split-field (c ∷ cs) f h =
    ap (λ parts. cond (c == 32) ([] ∷ parts) (onto_first c parts)) (split-field cs f h)
    ∙ go (c == 32)
  where
    go : (b : Bool) → cond b ([] ∷ (slice_split (λ c. c == 32) cs ++ f ∷ [])) (onto_first c (slice_split (λ c. c == 32) cs ++ f ∷ [])) ≡ cond b ([] ∷ slice_split (λ c. c == 32) cs) (onto_first c (slice_split (λ c. c == 32) cs)) ++ f ∷ []
    go true = refl
    go false = onto_more c (slice_split (λ c. c == 32) cs) f (split_some cs)

-- octets and spaces of some words
abbrev pub spaced : List (List ℕ) → ℕ
spaced [] = 0
spaced (w ∷ ws) = length w + 1 + spaced ws

spaced_onto : (c : ℕ) (ls : List (List ℕ)) → 0 < spaced ls → spaced (onto_first c ls) ≡ 1 + spaced ls
spaced_onto c [] h = absurd (omega arith)
spaced_onto c (l ∷ ls) h = omega arith

spaced_by : (b : Bool) (c : ℕ) (ls : List (List ℕ)) → 0 < spaced ls → spaced (cond b ([] ∷ ls) (onto_first c ls)) ≡ 1 + spaced ls
spaced_by true c ls h = omega arith
spaced_by false c ls h = spaced_onto c ls h

pub spaced-split : (text : List ℕ) → spaced (slice_split (λ c. c == 32) text) ≡ length text + 1
spaced-split [] = omega arith
spaced-split (c ∷ cs) =
    let ih = spaced-split cs in
    let e = spaced_by (c == 32) c (slice_split (λ c. c == 32) cs) (omega (arith, ih)) in omega (arith, e, ih)

-- a text of one line by its words, and no longer than `most` with its LF
pub record Spelled (text : List ℕ) (words : List (List ℕ)) (most : ℕ) : Type 0 where
  pub split : slice_split (λ c. c == 32) text ≡ words
  pub short : length text + 1 ≤ most
  pub unbroken : is_unbroken text ≡ true

pub Spelled-word : (w : List ℕ) → is_word w ≡ true → Spelled w (w ∷ []) (length w + 1)
Spelled-word w h = record { split = split_word w h; short = omega arith; unbroken = word_unbroken w h }

pub Spelled-field : (text : List ℕ) (words : List (List ℕ)) (most : ℕ) (field from : List ℕ) → Spelled text words most
    → is_word field ≡ true → length field ≤ length from
    → Spelled (text ␣ field) (words ++ field ∷ []) (most + (length from + 1))
Spelled-field text words most field from s h k = record {
  split = split-field text field h ∙ ap (λ v. v ++ field ∷ []) s.split;
  short = omega (arith, length-append text (32 ∷ field), s.short, k);
  unbroken = unbroken_field text field s.unbroken h;
}
