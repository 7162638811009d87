-- Words of a line, and what is written as one: numbers, octets in hex, names.
use Rattle.std.proofs.Common.{◌≡◌, ℕ, zero, suc, ◌/◌, ◌%◌, ◌^◌, ◌<◌, ◌≤◌, ◌+◌, ◌==◌, Bool, true, false, cond, List, [], ◌∷◌, ◌++◌, slice_index, refl, arith}
use Rattle.std.specs.List.{list_all}
use Rattle.std.specs.Fmt.{decimal}
use Rattle.std.proofs.lemmas.Fmt.{decimal_by_steps}
use Rattle.std.proofs.lemmas.Bool.{and_parts}
use Rattle.std.proofs.lemmas.Bool.Decides.{nat_tests}
use Rattle.hex.specs.Hex.{encode_with, encode_lower, lower_digits}
use Rattle.nas_elements.specs.Digits.{is_digit}
use Rattle.mme_types.specs.Network.{is_label_octet}
use Rattle.trace_words.specs.Trace.{octets_text}
use Rattle.trace_words.specs.Lines.{is_unbroken}

-- neither a space nor an LF
abbrev pub is_word : List ℕ → Bool
is_word [] = true
is_word (c ∷ cs) = cond (c == 32) false (cond (c == 10) false (is_word cs))

two_tests : (a b w : Bool) → cond a false (cond b false w) ≡ true → (a ≡ false) × (b ≡ false) × (w ≡ true)
two_tests true b w h = absurd (cc h)
two_tests false true w h = absurd (cc h)
two_tests false false w h = (refl, refl, h)

pub word_parts : (c : ℕ) (cs : List ℕ) → is_word (c ∷ cs) ≡ true → ((c == 32) ≡ false) × ((c == 10) ≡ false) × (is_word cs ≡ true)
word_parts c cs h = two_tests (c == 32) (c == 10) (is_word cs) h

word_cons : (c : ℕ) (cs : List ℕ) → (c == 32) ≡ false → (c == 10) ≡ false → is_word cs ≡ true → is_word (c ∷ cs) ≡ true
word_cons c cs a b h = rw (a, b) h

word_append : (xs ys : List ℕ) → is_word xs ≡ true → is_word ys ≡ true → is_word (xs ++ ys) ≡ true
word_append [] ys h k = k
word_append (x ∷ xs) ys h k = let p = word_parts x xs h in word_cons x (xs ++ ys) p.0 p.1 (word_append xs ys p.2 k)

no_space : (c : ℕ) → 33 ≤ c → (c == 32) ≡ false
no_space c h = grind (arith, nat_tests)

no_break : (c : ℕ) → 33 ≤ c → (c == 10) ≡ false
no_break c h = grind (arith, nat_tests)

pub word_over : (c : ℕ) (cs : List ℕ) → 33 ≤ c → is_word cs ≡ true → is_word (c ∷ cs) ≡ true
word_over c cs h k = word_cons c cs (no_space c h) (no_break c h) k

one_digit : (d : ℕ) → d < 10 → is_word ((48 + d) ∷ []) ≡ true
one_digit d h = word_over (48 + d) [] (omega arith) refl

pub decimal_word : (n : ℕ) → n < 2 ^ 64 → is_word (decimal n) ≡ true
decimal_word n h =
    decimal_by_steps (λ n ds. is_word ds ≡ true) one_digit
    (λ n ds big before. word_append ds ((48 + n % 10) ∷ []) before (one_digit (n % 10) (omega arith))) n h

digit_over : (b : ℕ) → is_digit b ≡ true → 33 ≤ b
digit_over b h = grind (arith, nat_tests)

pub digits_word : (bs : List ℕ) → list_all is_digit bs ≡ true → is_word bs ≡ true
digits_word [] h = refl
digits_word (b ∷ bs) h =
    let t = and_parts (is_digit b) (list_all is_digit bs) h in word_over b bs (digit_over b t.0) (digits_word bs t.1)

label_over : (c : ℕ) → is_label_octet c ≡ true → 33 ≤ c
label_over c h = grind (arith, nat_tests)

pub label_word : (cs : List ℕ) → list_all is_label_octet cs ≡ true → is_word cs ≡ true
label_word [] h = refl
label_word (c ∷ cs) h =
    let t = and_parts (is_label_octet c) (list_all is_label_octet cs) h in word_over c cs (label_over c t.0) (label_word cs t.1)

get_word : (t : List ℕ) (d : ℕ) → is_word t ≡ true → is_word (slice_index t d ∷ []) ≡ true
get_word [] d h = refl
get_word (x ∷ xs) zero h = let p = word_parts x xs h in word_cons x [] p.0 p.1 refl
get_word (x ∷ xs) (suc d) h = get_word xs d (word_parts x xs h).2

encode_word : (t xs : List ℕ) → is_word t ≡ true → is_word (encode_with t xs) ≡ true
unfolding encode_with
encode_word t [] h = refl
encode_word t (b ∷ rest) h =
    word_append (slice_index t (b / 16) ∷ []) (slice_index t (b % 16) ∷ encode_with t rest) (get_word t (b / 16) h)
    (word_append (slice_index t (b % 16) ∷ []) (encode_with t rest) (get_word t (b % 16) h) (encode_word t rest h))

pub hex_word : (xs : List ℕ) → is_word (encode_lower xs) ≡ true
hex_word xs = encode_word lower_digits xs refl

pub shown_word : (xs : List ℕ) → is_word (octets_text xs) ≡ true
shown_word [] = refl
shown_word (b ∷ bs) = hex_word (b ∷ bs)

-- ---- a line has no LF

one_test : (a w : Bool) → cond a false w ≡ true → (a ≡ false) × (w ≡ true)
one_test true w h = absurd (cc h)
one_test false w h = (refl, h)

unbroken_cons : (c : ℕ) (cs : List ℕ) → (c == 10) ≡ false → is_unbroken cs ≡ true → is_unbroken (c ∷ cs) ≡ true
unbroken_cons c cs a h = rw a h

pub word_unbroken : (w : List ℕ) → is_word w ≡ true → is_unbroken w ≡ true
word_unbroken [] h = refl
word_unbroken (c ∷ cs) h = let p = word_parts c cs h in unbroken_cons c cs p.1 (word_unbroken cs p.2)

pub unbroken_append : (xs ys : List ℕ) → is_unbroken xs ≡ true → is_unbroken ys ≡ true → is_unbroken (xs ++ ys) ≡ true
unbroken_append [] ys h k = k
unbroken_append (x ∷ xs) ys h k =
    let p = one_test (x == 10) (is_unbroken xs) h in unbroken_cons x (xs ++ ys) p.0 (unbroken_append xs ys p.1 k)
