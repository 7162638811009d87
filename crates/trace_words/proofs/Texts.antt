-- A text in digits is UTF-8, and a text is a label exactly where it passes the test of one.
use Rattle.std.proofs.Common.{◌≡◌, ℕ, ◌-◌, ◌<◌, ◌≤◌, ◌==◌, ◌&&◌, ◌||◌, ◌↔◌, Bool, true, false, cond, List, [], ◌∷◌, length, map, Option, Some, None, Ok, Err, refl, sym, ap, ◌∙◌, arith, not, nat_le}
use Rattle.std.specs.Prelude.{IfSome, IsSome, ok_or}
use Rattle.std.specs.List.{list_all}
use Rattle.std.specs.Str.{IsAscii, IsUtf8}
use Rattle.std.proofs.lemmas.Bool.{and_parts, leb-true, le-leb}
use Rattle.std.proofs.lemmas.Bool.Decides.{nat_tests}
use Rattle.std.proofs.lemmas.List.Sums.{AllPass-from_list_all, list_all-from_AllPass}
use Rattle.std.proofs.lemmas.Str.{IsUtf8-from_ascii}
use Rattle.std.proofs.lemmas.Str.Ascii.{IsAscii-nil, IsAscii-cons}
use Rattle.nas_elements.specs.Digits.{is_digit, is_digit_text, filled, imsi_of_text}
use Rattle.mme_types.specs.Network.{IsLabel, is_label_octet}
use Rattle.trace_words.specs.declared.fault.TraceFault.TheVariants.{BadNumber}
use Rattle.trace_words.specs.Fields.{is_apn_label}
use Rattle.trace_words.specs.Trace.{label_field, subscriber_field}

digit_ascii : (b : ℕ) → is_digit b ≡ true → b < 128
digit_ascii b e = let s = leb-true b 57 (and_parts (nat_le 48 b) (nat_le b 57) e).1 in omega (arith, s)

digits_ascii : (bs : List ℕ) → list_all is_digit bs ≡ true → IsAscii bs
digits_ascii [] e = IsAscii-nil
digits_ascii (b ∷ bs) e =
    let t = and_parts (is_digit b) (list_all is_digit bs) e in IsAscii-cons b bs (digit_ascii b t.0) (digits_ascii bs t.1)

digits_utf8 : (bs : List ℕ) → is_digit_text bs ≡ true → IsUtf8 bs
digits_utf8 bs e =
    IsUtf8-from_ascii bs (digits_ascii bs (and_parts ((length bs == 14) || (length bs == 15)) (list_all is_digit bs) e).1)

-- a text that is no UTF-8 names no subscriber
pub not_subscriber : (bs : List ℕ) → (IsUtf8 bs → ⊥) → subscriber_field bs ≡ Err BadNumber
unfolding imsi_of_text
not_subscriber bs other = go (is_digit_text bs) (digits_utf8 bs)
  where
    go : (b : Bool) → (b ≡ true → IsUtf8 bs) → ok_or (cond b (Some (filled (map (λ d. d - 48) bs))) None) BadNumber ≡ Err BadNumber
    go true text = absurd (other (text refl))
    go false text = refl

-- ---- labels

pub label_octets : (cs : List ℕ) → is_apn_label cs ≡ true → list_all is_label_octet cs ≡ true
label_octets cs e = (and_parts (not (length cs == 0) && nat_le (length cs) 63) (list_all is_label_octet cs) e).1

negated : (b : Bool) → not b ≡ true → b ≡ false
negated true h = absurd (cc h)
negated false h = refl

some_octet : (n : ℕ) → (n == 0) ≡ false → 1 ≤ n
some_octet n h = grind (arith, nat_tests)

not_none : (n : ℕ) → 1 ≤ n → (n == 0) ≡ false
not_none n h = grind (arith, nat_tests)

label_is : (cs : List ℕ) → is_apn_label cs ≡ true → IsLabel cs
label_is cs e =
    let both = and_parts (not (length cs == 0) && nat_le (length cs) 63) (list_all is_label_octet cs) e in
    let size = and_parts (not (length cs == 0)) (nat_le (length cs) 63) both.0 in (
      some_octet (length cs) (negated (length cs == 0) size.0),
      leb-true (length cs) 63 size.1,
      AllPass-from_list_all is_label_octet cs both.1,
    )

label_tests : (cs : List ℕ) → IsLabel cs → is_apn_label cs ≡ true
label_tests cs h =
    let some : (length cs == 0) ≡ false = not_none (length cs) h.0 in
    let short : nat_le (length cs) 63 ≡ true = le-leb (length cs) 63 h.1 in
    let octets : list_all is_label_octet cs ≡ true = list_all-from_AllPass is_label_octet cs h.2 in
    rw (some, short, octets) refl

-- a name that is made of a text where it is a label is the field of that text
pub label_taken : (made : Option (List ℕ)) (text : List ℕ) → IsSome made ↔ IsLabel text → IfSome made (λ name. name ≡ text)
    → ok_or made BadNumber ≡ label_field text
label_taken None text some value = go (is_apn_label text) refl
  where
    go : (b : Bool) → is_apn_label text ≡ b → Err BadNumber ≡ cond b (Ok text) (Err BadNumber)
    go true h = absurd (let never = some.1 (label_is text h) in cc never)
    go false h = refl
label_taken (Some name) text some value =
    ap Ok value ∙ sym (ap (λ b. cond b (Ok text) (Err BadNumber)) (label_tests text (some.0 refl)))
