-- A text is a label exactly where it passes the test of one.
use Rattle.std.proofs.Common.{◌≡◌, ℕ, ◌≤◌, ◌==◌, ◌&&◌, ◌↔◌, Bool, true, false, cond, List, length, Option, Some, None, Ok, Err, refl, sym, ap, ◌∙◌, arith, not, nat_le}
use Rattle.std.specs.Prelude.{IfSome, IsSome, ok_or}
use Rattle.std.specs.List.{list_all}
use Rattle.std.proofs.lemmas.Bool.{and_parts, leb-true, le-leb}
use Rattle.std.proofs.lemmas.Bool.Decides.{nat_tests}
use Rattle.std.proofs.lemmas.List.Sums.{AllPass-from_list_all, list_all-from_AllPass}
use Rattle.mme_types.specs.Network.{IsLabel, is_label_octet}
use Rattle.trace_words.specs.Fields.{is_apn_label}
use Rattle.trace_words.specs.declared.fault.TraceFault.TheVariants as line
use Rattle.c_session.specs.declared.refusal.Refusal.TheVariants.{BadNumber}
use Rattle.c_session.specs.Arguments.{apn_of}
use Rattle.c_session.specs.Refusals.{of_field}

negated : (b : Bool) → not b ≡ true → b ≡ false
negated true h = absurd (cc h)
negated false h = refl

some_octet : (n : ℕ) → (n == 0) ≡ false → 1 ≤ n
some_octet n h = grind (arith, nat_tests)

not_none : (n : ℕ) → 1 ≤ n → (n == 0) ≡ false
not_none n h = grind (arith, nat_tests)

label_is : (cs : List ℕ) → is_apn_label cs ≡ true → IsLabel cs
label_is cs e =
    let both = and_parts (not (length cs == 0) && nat_le (length cs) 63) (list_all is_label_octet cs) e in
    let size = and_parts (not (length cs == 0)) (nat_le (length cs) 63) both.0 in (
      some_octet (length cs) (negated (length cs == 0) size.0),
      leb-true (length cs) 63 size.1,
      AllPass-from_list_all is_label_octet cs both.1,
    )

label_tests : (cs : List ℕ) → IsLabel cs → is_apn_label cs ≡ true
label_tests cs h =
    let some : (length cs == 0) ≡ false = not_none (length cs) h.0 in
    let short : nat_le (length cs) 63 ≡ true = le-leb (length cs) 63 h.1 in
    let octets : list_all is_label_octet cs ≡ true = list_all-from_AllPass is_label_octet cs h.2 in
    rw (some, short, octets) refl

-- a name that is made of a text where it is a label is the argument of that text
pub label_taken : (made : Option (List ℕ)) (text : List ℕ) → IsSome made ↔ IsLabel text → IfSome made (λ name. name ≡ text)
    → ok_or made BadNumber ≡ apn_of text
label_taken None text some value = go (is_apn_label text) refl
  where
    go : (b : Bool) → is_apn_label text ≡ b → Err BadNumber ≡ of_field (cond b (Ok text) (Err line.BadNumber))
    go true h = absurd (let never = some.1 (label_is text h) in cc never)
    go false h = refl
label_taken (Some name) text some value =
    ap Ok value ∙ sym (ap (λ b. of_field (cond b (Ok text) (Err line.BadNumber))) (label_tests text (some.0 refl)))
