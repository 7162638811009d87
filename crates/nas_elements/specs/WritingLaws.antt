-- What is written is spelled.
use Rattle.std.proofs.Common.{◌≡◌, ℕ, ◌+◌, ◌*◌, ◌/◌, ◌%◌, ◌<◌, ◌≤◌, ◌&&◌, Bool, true, false, cond, eqb, leb, not, List, [], ◌∷◌, ◌++◌, length, Option, Some, None, refl, sym, subst, ◌∙◌, arith}
use Rattle.std.proofs.lemmas.Bool.{eq-eqb, eqb-true, ne_eqb, le-leb, lt-leb}
use Rattle.nas_elements.specs.declared.rule.Domain.{Domain}
use Rattle.nas_elements.specs.declared.rule.Element.{Element}
use Rattle.nas_elements.specs.declared.rule.Rule.{Rule}
use Rattle.nas_elements.specs.declared.rule.Rule.TheVariants.{Itself, Fixed, ByOctet, ByTwo}
use Rattle.nas_elements.specs.Parts.{Half, spare, three, flagged, four, exactly, Content, between, identity, guti, tai_list, label, Part, constant, octet, halves, fixed, lv, long, HalfValue, ContentValue, Value, Values, SpellsHalf, SpellsContent, SpellsPart, SpellsParts, write_half, write_content, write_part, write_parts, HalfFits, ContentFits, PartFits, Fit, short, wide}
use Rattle.nas_elements.specs.Optionals.{rule_of, SpellsBy, SpellsElement, AreElements, first, write_by, FitsBy}
use Rattle.nas_elements.specs.Rows.{Row, Keep, element, flag, iei_of, KeepValue, kept_from, as_written, is_sound, Kept, firsts, RowValue, SpellsRow, write_optional, write_kept, write_row, OptionalFits, KeptFit, contains, are_distinct, RowFits}
use Rattle.nas_elements.specs.Exact.{both_true}
use Rattle.nas_elements.specs.IdentityLaws.{guti_written, identity_written, tai_list_written}

half_small : (h : Half) (v : HalfValue h) → HalfFits h v → write_half h v < 16
half_small spare v f = omega arith
half_small three v f = omega (arith, f)
half_small flagged (n, true) f = omega (arith, f)
half_small flagged (n, false) f = omega (arith, f)
half_small four v f = f
half_small (exactly c) v f = omega (arith, f)

low_enough : (n : ℕ) → n < 8 → leb 8 n ≡ false
low_enough n lt = lt-leb 8 n lt

half_written : (h : Half) (v : HalfValue h) → HalfFits h v → SpellsHalf h v (write_half h v)
half_written spare v f = tt
half_written three v f = omega (arith, f)
half_written flagged (n, true) f = (omega (arith, f), sym (le-leb 8 (8 + n) (omega arith)))
half_written flagged (n, false) f = (omega (arith, f), sym (low_enough n f))
half_written four v f = refl
half_written (exactly c) v f = omega (arith, f)

pub content_written : (c : Content) (v : ContentValue c) → ContentFits c v → SpellsContent c v (write_content c v)
content_written (between lo hi) v f = (refl, f.0, f.1)
content_written identity v f = identity_written v f
content_written guti v f = guti_written v f
content_written tai_list v f = tai_list_written v f
content_written label v f = (refl, f.0, f.1)

low_of : (u v : ℕ) → v < 16 → (u * 16 + v) % 16 ≡ v
low_of u v lt = omega (arith, lt)

high_of : (u v : ℕ) → v < 16 → (u * 16 + v) / 16 ≡ u
high_of u v lt = omega (arith, lt)

part_written : (p : Part) (v : Value p) → PartFits p v → SpellsPart p v (write_part p v)
part_written (constant c) v f = refl
part_written octet v f = refl
part_written (halves low high) v f =
    let l = half_small low v.0 f.0 in (
      write_half high v.1 * 16 + write_half low v.0,
      refl,
      subst (λ (n : ℕ). SpellsHalf low v.0 n) (sym (low_of (write_half high v.1) (write_half low v.0) l))
          (half_written low v.0 f.0),
      subst (λ (n : ℕ). SpellsHalf high v.1 n) (sym (high_of (write_half high v.1) (write_half low v.0) l))
          (half_written high v.1 f.1),
    )
part_written (fixed n) v f = (refl, f)
part_written (lv c) v f = (write_content c v, refl, content_written c v f)
part_written long v f = (length v / 256, length v % 256, refl, omega arith)

parts_written : (ps : List Part) (v : Values ps) → Fit ps v → SpellsParts ps v (write_parts ps v)
parts_written [] v f = refl
parts_written (p ∷ ps) v f = (write_part p v.0, write_parts ps v.1, refl, part_written p v.0 f.0, parts_written ps v.1 f.1)

-- ---- the optional part

abbrev element_of : ℕ → List ℕ → Element (List ℕ)
element_of i os = record { iei = i; octets = os }

abbrev more_of : ℕ → Option (List ℕ) → List (Element (List ℕ)) → List (Element (List ℕ))
more_of i None es = es
more_of i (Some os) es = element_of i os ∷ es

abbrev kept_elements : (ks : List Keep) → Kept ks → List (Element (List ℕ))
kept_elements [] v = []
kept_elements (k ∷ ks) v = more_of (iei_of k) (as_written k v.0) (kept_elements ks v.1)

pub itself : (domain : Domain) (n : ℕ) → 128 ≤ n → rule_of domain n ≡ Itself
unfolding rule_of
itself domain n le = rw (le-leb 128 n le) refl

by_rule_written : (domain : Domain) (i : ℕ) (os : List ℕ) (r : Rule) → rule_of domain i ≡ r → FitsBy r i os
    → SpellsElement domain (element_of i os) (write_by r i os)
by_rule_written domain i os Itself e f =
    let n = f.0 in
    let same : element_of i os ≡ record { iei = n / 16 * 16; octets = n ∷ [] } = rw (f.1, f.2) refl in
    (n, [], f.1, subst (λ (r : Rule). SpellsBy r n (element_of i os) []) (sym (itself domain n f.3)) (same, refl))
by_rule_written domain i os (Fixed n) e f =
    (i, os, refl, subst (λ (r : Rule). SpellsBy r i (element_of i os) os) (sym e) (refl, refl, f))
by_rule_written domain i os ByOctet e f =
    (i, short os, refl, subst (λ (r : Rule). SpellsBy r i (element_of i os) (short os)) (sym e) (refl, refl))
by_rule_written domain i os ByTwo e f = (
  i,
  wide os,
  refl,
  subst (λ (r : Rule). SpellsBy r i (element_of i os) (wide os)) (sym e)
      (refl, length os / 256, length os % 256, refl, omega arith),
)

add_element : (domain : Domain) (i : ℕ) (o : Option (List ℕ)) (es : List (Element (List ℕ))) (rest : List ℕ)
    → OptionalFits domain i o → AreElements domain es rest → AreElements domain (more_of i o es) (write_optional domain i o ++ rest)
add_element domain i None es rest f m = m
add_element domain i (Some os) es rest f m =
    (write_by (rule_of domain i) i os, rest, refl, by_rule_written domain i os (rule_of domain i) refl f, m)

kept_written : (domain : Domain) (ks : List Keep) (v : Kept ks) → KeptFit domain ks v
    → AreElements domain (kept_elements ks v) (write_kept domain ks v)
kept_written domain [] v f = refl
kept_written domain (k ∷ ks) v f =
    add_element domain (iei_of k) (as_written k v.0) (kept_elements ks v.1) (write_kept domain ks v.1) f.0
    (kept_written domain ks v.1 f.1)

first_skips : (i j : ℕ) (o : Option (List ℕ)) (es : List (Element (List ℕ))) → eqb i j ≡ false
    → first j (more_of i o es) ≡ first j es
first_skips i j None es e = refl
first_skips i j (Some os) es e = rw e refl

not_here : (b c : Bool) → cond b true c ≡ false → (b ≡ false) × (c ≡ false)
not_here true c e = absurd cc
not_here false c e = (refl, e)

firsts_skip : (ks : List Keep) (i : ℕ) (o : Option (List ℕ)) (es : List (Element (List ℕ))) → contains i ks ≡ false
    → firsts ks (more_of i o es) ≡ firsts ks es
firsts_skip [] i o es e = refl
firsts_skip (k ∷ ks) i o es e =
    let n = not_here (eqb i (iei_of k)) (contains i ks) e in
    rw (first_skips i (iei_of k) o es n.0, firsts_skip ks i o es n.1) refl

swapped : (i j : ℕ) → eqb i j ≡ false → eqb j i ≡ false
swapped i j e = ne_eqb j i (λ q. absurd (let p : eqb i j ≡ true = eq-eqb i j (sym q) in cc))

first_none : (ks : List Keep) (v : Kept ks) (i : ℕ) → contains i ks ≡ false → first i (kept_elements ks v) ≡ None
first_none [] v i e = refl
first_none (k ∷ ks) v i e =
    let n = not_here (eqb i (iei_of k)) (contains i ks) e in
    first_skips (iei_of k) i (as_written k v.0) (kept_elements ks v.1) (swapped i (iei_of k) n.0) ∙ first_none ks v.1 i n.1

first_own : (i : ℕ) (o : Option (List ℕ)) (es : List (Element (List ℕ))) → first i es ≡ None → first i (more_of i o es) ≡ o
first_own i None es e = e
first_own i (Some os) es e = rw (eq-eqb i i refl) refl

not_true : (b : Bool) → not b ≡ true → b ≡ false
not_true true e = absurd cc
not_true false e = refl

-- what is kept of what is written
kept_again : (k : Keep) (v : KeepValue k) → is_sound k ≡ true → kept_from k (as_written k v) ≡ v
kept_again (element i) v e = refl
kept_again (flag i) true e =
    let even = eqb-true _ _ (both_true (leb 128 i) (eqb (i % 16) 0) e).1 in eq-eqb ((i + 1) % 2) 1 (omega (arith, even))
kept_again (flag i) false e = refl

firsts_kept : (ks : List Keep) (v : Kept ks) → are_distinct ks ≡ true → firsts ks (kept_elements ks v) ≡ v
firsts_kept [] v e = refl
firsts_kept (k ∷ ks) v e =
    let t = both_true (not (contains (iei_of k) ks) && is_sound k) (are_distinct ks) e in
    let u = both_true (not (contains (iei_of k) ks)) (is_sound k) t.0 in
    let absent = not_true (contains (iei_of k) ks) u.0 in
    rw (
      first_own (iei_of k) (as_written k v.0) (kept_elements ks v.1) (first_none ks v.1 (iei_of k) absent),
      kept_again k v.0 u.1,
      firsts_skip ks (iei_of k) (as_written k v.0) (kept_elements ks v.1) absent,
      firsts_kept ks v.1 t.1,
    ) refl

pub written : (r : Row) (v : RowValue r) → are_distinct r.kept ≡ true → RowFits r v → SpellsRow r v (write_row r v)
written r v e f = record {
  front = write_parts r.parts v.0;
  rest = write_kept r.domain r.kept v.1;
  found = kept_elements r.kept v.1;
  whole = refl;
  mandatory = parts_written r.parts v.0 f.0;
  optional = kept_written r.domain r.kept v.1 f.1;
  kept = sym (firsts_kept r.kept v.1 e);
}
