-- What is written of a field that was read is read as the same, is a word, and is no longer.
use Rattle.std.proofs.Common.{◌≡◌, ℕ, ◌*◌, ◌-◌, ◌/◌, ◌%◌, ◌^◌, ◌<◌, ◌≤◌, ◌==◌, ◌&&◌, nat_le, Bool, true, false, cond, List, [], ◌∷◌, length, map, codes, slice_index, Option, Some, None, Result, Ok, Err, refl, sym, ap, subst, ◌∙◌, arith}
use Rattle.std.specs.Prelude.{ok_or}
use Rattle.std.specs.List.{list_all}
use Rattle.std.specs.Str.{bytes_eq}
use Rattle.std.specs.Fmt.{decimal}
use Rattle.std.proofs.lemmas.Fmt.{decimal_nonempty}
use Rattle.std.proofs.lemmas.Slice.Eq.{bytes_eq-Decides}
use Rattle.std.proofs.lemmas.Bool.{and_parts, eqb-true, eq-eqb, leb-true, le-leb}
use Rattle.std.proofs.lemmas.Bool.Decides.{nat_tests}
use Rattle.hex.specs.Hex.{decode_of, encode_with, encode_lower, lower_digits, IsBytes}
use Rattle.hex.specs.declared.error.FromHexError.{FromHexError}
use Rattle.hex.proofs.HexLemmas.{decode_of-encode_lower, decode_of-ok, length-encode_with}
use Rattle.nas_elements.specs.Digits.{is_digit, is_digit_text, filled, imsi_of_text, imsi_text}
use Rattle.trace_words.specs.declared.fault.TraceFault.{TraceFault}
use Rattle.trace_words.specs.declared.fault.TraceFault.TheVariants.{BadNumber, BadHex}
use Rattle.trace_words.specs.Fields.{is_apn_label}
use Rattle.trace_words.specs.Trace.{decimal_of, decimal_from, capped, at_least, number_field, hex_of, octets_field, sized_of, xres_sized, xres_field, label_field, subscriber_field, octets_text, ◌>>=◌}
use Rattle.trace_words.proofs.Printed.{decimal_from-decimal, length-decimal-read}
use Rattle.trace_words.proofs.Texts.{label_octets}
use Rattle.trace_words.specs.WordLaws.{is_word, decimal_word, digits_word, label_word, hex_word, shown_word}

pub record Again {A : Type 0} (read : List ℕ → Result A TraceFault) (x : A) (text written : List ℕ) : Type 0 where
  pub again : read written ≡ Ok x
  pub word : is_word written ≡ true
  pub short : length written ≤ length text

-- where the text of an IMSI is what it was read from
abbrev pub TextIsImsi : Type 0
TextIsImsi = (bs ds : List ℕ) → imsi_of_text bs ≡ Some ds → imsi_text ds ≡ bs

pub ok_with : {A B : Type 0} (P : Type 0) (r : Result A TraceFault) (f : A → Result B TraceFault) (y : B) → (r >>= f) ≡ Ok y
    → ((x : A) → r ≡ Ok x → f x ≡ Ok y → P) → P
ok_with P (Ok x) f y e k = k x refl e
ok_with P (Err t) f y e k = absurd (cc e)

-- ---- numbers

decimal_of-some : (ds : List ℕ) → 0 < length ds → decimal_of ds ≡ decimal_from 0 ds
decimal_of-some [] h = absurd (omega arith)
decimal_of-some (d ∷ ds) h = refl

decimal_of-decimal : (n : ℕ) → n < 2 ^ 64 → decimal_of (decimal n) ≡ Some n
decimal_of-decimal n h = decimal_of-some (decimal n) (decimal_nonempty n h) ∙ decimal_from-decimal n h

number_of-some : (least most n : ℕ) → least ≤ n → n ≤ most → at_least least (capped most (Some n)) ≡ Ok n
number_of-some least most n h k = rw (le-leb n most k, le-leb least n h) refl

-- a number that is written is read
pub number_written : (least most n : ℕ) → most < 2 ^ 60 → least ≤ n → n ≤ most → number_field least most (decimal n) ≡ Ok n
number_written least most n h low high =
    ap (λ o. at_least least (capped most o)) (decimal_of-decimal n (omega arith)) ∙ number_of-some least most n low high

record InRange (least most n : ℕ) (o : Option ℕ) : Type 0 where
  low : least ≤ n
  high : n ≤ most
  read : o ≡ Some n

some_in_range : (least most n v : ℕ) (high low : Bool) → (high ≡ true → v ≤ most) → (low ≡ true → least ≤ v)
    → (nat_le least v ≡ low) → at_least least (cond high (Some v) None) ≡ Ok n → InRange least most n (Some v)
some_in_range least most n v false low h l q e = absurd (cc e)
some_in_range least most n v true false h l q e = absurd (let never : cond (nat_le least v) (Ok v) (Err BadNumber) ≡ Ok n = e in let other : (let r : Result ℕ TraceFault = Err BadNumber in r) ≡ Ok n = ap (λ b. cond b (Ok v) (Err BadNumber)) (sym q) ∙ never in cc other)
some_in_range least most n v true true h l q e =
    let same : v ≡ n =
    (let k : (let r : Result ℕ TraceFault = Ok v in r) ≡ Ok n = ap (λ b. cond b (Ok v) (Err BadNumber)) (sym q) ∙ e in cc k) in
    subst (λ (m : ℕ). InRange least most m (Some v)) same (record { low = l refl; high = h refl; read = refl })

in_range : (least most n : ℕ) (o : Option ℕ) → at_least least (capped most o) ≡ Ok n → InRange least most n o
in_range least most n None e = absurd (cc e)
in_range least most n (Some v) e =
    some_in_range least most n v (nat_le v most) (nat_le least v) (leb-true v most) (leb-true least v) refl e

pub number_again : (least most n : ℕ) (text : List ℕ) → most < 2 ^ 60 → number_field least most text ≡ Ok n
    → Again (number_field least most) n text (decimal n)
number_again least most n text h e =
    let r = in_range least most n (decimal_of text) e in
    let small : n < 2 ^ 64 = omega (arith, r.high, h) in
    record {
      again = number_written least most n h r.low r.high;
      word = decimal_word n small;
      short = length-decimal-read n text r.read small;
    }

-- ---- octets

pub hex_read : (r : Result (List ℕ) FromHexError) (xs : List ℕ) → hex_of r ≡ Ok xs → r ≡ Ok xs
hex_read (Ok ys) xs e = let same : ys ≡ xs = cc e in ap Ok same
hex_read (Err f) xs e = absurd (cc e)

hex_again : (text xs : List ℕ) → hex_of (decode_of text) ≡ Ok xs
    → (hex_of (decode_of (encode_lower xs)) ≡ Ok xs) × (length (encode_lower xs) ≡ length text)
hex_again text xs e =
    let ok = decode_of-ok text xs (hex_read (decode_of text) xs e) in
    (ap hex_of (decode_of-encode_lower xs ok.3), length-encode_with lower_digits xs ∙ sym ok.2)

pub sized_again : (n : ℕ) (text xs : List ℕ) → sized_of n text ≡ Ok xs → Again (sized_of n) xs text (encode_lower xs)
sized_again n text xs e = go (length text == 2 * n) (eqb-true (length text) (2 * n)) e
  where
    go : (b : Bool) → (b ≡ true → length text ≡ 2 * n) → cond b (hex_of (decode_of text)) (Err BadHex) ≡ Ok xs
        → Again (sized_of n) xs text (encode_lower xs)
    go false s h = absurd (cc h)
    go true s h =
        let again = hex_again text xs h in
        let long : (length (encode_lower xs) == 2 * n) ≡ true = eq-eqb (length (encode_lower xs)) (2 * n) (again.1 ∙ s refl) in
        record { again = ap (λ b. cond b (hex_of (decode_of (encode_lower xs))) (Err BadHex)) long ∙ again.0; word = hex_word xs; short = omega (arith, again.1) }

xres_same : (ys xs : List ℕ) → xres_sized ys ≡ Ok xs → (ys ≡ xs) × (xres_sized ys ≡ Ok ys)
xres_same ys xs e = go (nat_le 4 (length ys) && nat_le (length ys) 16) e
  where
    go : (b : Bool) → cond b (Ok ys) (Err BadHex) ≡ Ok xs → (ys ≡ xs) × (cond b (Ok ys) (Err BadHex) ≡ Ok ys)
    go true h = (cc h, refl)
    go false h = absurd (cc h)

pub xres_again : (text xs : List ℕ) → xres_field text ≡ Ok xs → Again xres_field xs text (encode_lower xs)
xres_again text xs e =
    ok_with (Again xres_field xs text (encode_lower xs)) (hex_of (decode_of text)) xres_sized xs e
    (λ ys r h.
    let same = xres_same ys xs h in
    let again = hex_again text ys r in
    subst (λ (v : List ℕ). Again xres_field v text (encode_lower v)) same.0
    (record { again = ap (λ v. v >>= xres_sized) again.0 ∙ same.1; word = hex_word ys; short = omega (arith, again.1) }))

not_one : (b : Bool) → (b && false) ≡ false
not_one true = refl
not_one false = refl

not_dash : (x y : ℕ) (r : List ℕ) → bytes_eq (x ∷ y ∷ r) (codes "-") ≡ false
not_dash x y r = not_one (x == 45)

pub octets_of-shown : (xs : List ℕ) → IsBytes xs → octets_field (octets_text xs) ≡ Ok xs
unfolding encode_with
octets_of-shown [] h = refl
octets_of-shown (b ∷ bs) h =
    let some : (length (encode_lower (b ∷ bs)) == 0) ≡ false = let e = length-encode_with lower_digits (b ∷ bs) in grind (arith, nat_tests, e) in
    let plain : bytes_eq (encode_lower (b ∷ bs)) (codes "-") ≡ false =
    not_dash (slice_index lower_digits (b / 16)) (slice_index lower_digits (b % 16)) (encode_lower bs) in
    rw (some, plain, decode_of-encode_lower (b ∷ bs) h) refl

shown_length : (xs : List ℕ) (n : ℕ) → 0 < n → n ≡ 2 * length xs → length (octets_text xs) ≤ n
shown_length [] n h e = omega arith
shown_length (b ∷ bs) n h e = let l = length-encode_with lower_digits (b ∷ bs) in omega (arith, l)

empty_bytes : IsBytes []
empty_bytes i = omega arith

not_empty : (n : ℕ) → (n == 0) ≡ false → 0 < n
not_empty n h = grind (arith, nat_tests)

octets_read : (text xs : List ℕ) → octets_field text ≡ Ok xs → IsBytes xs × (length (octets_text xs) ≤ length text)
octets_read text xs e =
    let P : Type 0 = IsBytes xs × (length (octets_text xs) ≤ length text) in
    let dash : (b : Bool) → (b ≡ true → text ≡ codes "-") → 0 < length text → cond b (Ok []) (hex_of (decode_of text)) ≡ Ok xs → P
    = λ b. elim b as (λ b. (b ≡ true → text ≡ codes "-") → 0 < length text → cond b (Ok []) (hex_of (decode_of text)) ≡ Ok xs → P) [
      | true ↦ λ s some h.
          let same : [] ≡ xs = cc h in
          let Q : List ℕ → Type 0 = λ v. IsBytes v × (length (octets_text v) ≤ length text) in
          subst Q same (empty_bytes, omega arith)
      | false ↦ λ s some h. let ok =
          decode_of-ok text xs (hex_read (decode_of text) xs h) in (ok.3, shown_length xs (length text) some ok.2)
    ] in
    let go : (b : Bool) → (b ≡ false → 0 < length text) → cond b (Err BadHex) (cond (bytes_eq text (codes "-")) (Ok []) (hex_of (decode_of text))) ≡ Ok xs → P
    = λ b. elim b as (λ b. (b ≡ false → 0 < length text) → cond b (Err BadHex) (cond (bytes_eq text (codes "-")) (Ok []) (hex_of (decode_of text))) ≡ Ok xs → P)
    [ true ↦ λ s h. absurd (cc h) | false ↦ λ s h. dash (bytes_eq text (codes "-")) (bytes_eq-Decides text (codes "-")).0 (s refl) h ] in
    go (length text == 0) (not_empty (length text)) e

pub octets_again : (text xs : List ℕ) → octets_field text ≡ Ok xs → Again octets_field xs text (octets_text xs)
octets_again text xs e =
    let r = octets_read text xs e in record { again = octets_of-shown xs r.0; word = shown_word xs; short = r.1 }

-- ---- names

pub label_again : (text xs : List ℕ) → label_field text ≡ Ok xs → Again label_field xs text xs
label_again text xs e = go (is_apn_label text) refl e
  where
    go : (b : Bool) → is_apn_label text ≡ b → cond b (Ok text) (Err BadNumber) ≡ Ok xs → Again label_field xs text xs
    go false s h = absurd (cc h)
    go true s h =
        let same : text ≡ xs = cc h in
        subst (λ (v : List ℕ). Again label_field v text v) same
        (record { again = ap (λ b. cond b (Ok text) (Err BadNumber)) s; word = label_word text (label_octets text s); short = omega arith })

some_subscriber : (o : Option (List ℕ)) (xs : List ℕ) → ok_or o BadNumber ≡ Ok xs → o ≡ Some xs
some_subscriber None xs e = absurd (cc e)
some_subscriber (Some ys) xs e = let same : ys ≡ xs = cc e in ap Some same

subscriber_digits : (text xs : List ℕ) → imsi_of_text text ≡ Some xs → list_all is_digit text ≡ true
unfolding imsi_of_text
subscriber_digits text xs e = go (is_digit_text text) (λ t. (and_parts _ (list_all is_digit text) t).1) e
  where
    go : (b : Bool) → (b ≡ true → list_all is_digit text ≡ true) → cond b (Some (filled (map (λ d. d - 48) text))) None ≡ Some xs
        → list_all is_digit text ≡ true
    go true s h = s refl
    go false s h = absurd (cc h)

pub subscriber_again : TextIsImsi → (text xs : List ℕ) → subscriber_field text ≡ Ok xs
    → Again subscriber_field xs text (imsi_text xs)
subscriber_again law text xs e =
    let o = some_subscriber (imsi_of_text text) xs e in
    let same : text ≡ imsi_text xs = sym (law text xs o) in
    subst (λ (v : List ℕ). Again subscriber_field xs text v) same
    (record { again = e; word = digits_word text (subscriber_digits text xs o); short = omega arith })
