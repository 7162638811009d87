-- Parts: what is spelled is read, whatever follows, and what is read is spelled.
use Rattle.std.proofs.Common.{◌≡◌, ℕ, ◌/◌, ◌%◌, true, cond, leb, eqb, List, [], ◌∷◌, ◌++◌, length, Option, Some, None, refl, sym, ap, subst, ◌∙◌, arith, append_assoc}
use Rattle.std.proofs.lemmas.Bool.{le-leb, eqb-true, eq-eqb}
use Rattle.std.proofs.lemmas.List.{append-nil}
use Rattle.nas_elements.specs.Parts.{◌>>=◌, Half, Content, between, identity, guti, tai_list, label, Part, constant, octet, halves, fixed, lv, long, HalfValue, ContentValue, Value, Values, SpellsHalf, SpellsContent, SpellsPart, SpellsParts, half_of, content_of, octet_at, short_at, read_part, read_parts}
use Rattle.nas_elements.specs.Exact.{Takes, Exact, bind_ok, some_is, where_ok, exact_same, Bind, exact_bind, Given, exact_given, IsOctet, exact_octet, exact_fixed, IsShort, exact_short, exact_long, half_takes, half_again, between_takes}
use Rattle.nas_elements.specs.IdentityLaws.{identity_takes, identity_again, guti_takes, guti_again, tai_list_takes, tai_list_again, label_takes, label_again}

between_again : (lo hi : ℕ) (os xs : List ℕ) → SpellsContent (between lo hi) xs os → content_of (between lo hi) os ≡ Some xs
between_again lo hi os xs m =
    let p : leb lo (length os) ≡ true = le-leb _ _ (let e = ap length m.0 in let l = m.1 in omega (arith, e, l)) in
    let q : leb (length os) hi ≡ true = le-leb _ _ (let e = ap length m.0 in let l = m.2 in omega (arith, e, l)) in
    rw (p, q, m.0) refl

pub content_takes : (c : Content) (os : List ℕ) (v : ContentValue c) → content_of c os ≡ Some v → SpellsContent c v os
content_takes (between lo hi) os v e = between_takes lo hi os v e
content_takes identity os v e = identity_takes os v e
content_takes guti os v e = guti_takes os v e
content_takes tai_list os v e = tai_list_takes os v e
content_takes label os v e = label_takes os v e

pub content_again : (c : Content) (os : List ℕ) (v : ContentValue c) → SpellsContent c v os → content_of c os ≡ Some v
content_again (between lo hi) os v m = between_again lo hi os v m
content_again identity os v m = identity_again os v m
content_again guti os v m = guti_again os v m
content_again tai_list os v m = tai_list_again os v m
content_again label os v m = label_again os v m

-- ---- parts

constant_takes : (c : ℕ) (os rest : List ℕ) (u : Unit {0}) → read_part (constant c) os ≡ Some (u, rest)
    → Takes (SpellsPart (constant c)) os u rest
constant_takes c os rest u e =
    let last : Unit {0} × List ℕ = (u, rest) in
    let f : ℕ × List ℕ → Option (Unit {0} × List ℕ) = λ n. cond (eqb n.0 c) (Some (tt, n.1)) None in
    let a = bind_ok (octet_at os) f last e in
    let first = exact_octet.takes os a.0.1 a.0.0 a.1 in
    let made : Unit {0} × List ℕ = (tt, a.0.1) in
    let g = where_ok (eqb a.0.0 c) made last a.2 in
    subst (λ (y : Unit {0} × List ℕ). Takes (SpellsPart (constant c)) os y.0 y.1) g.1
    (record { taken = first.taken; parts = first.parts; spelled = first.spelled ∙ ap (λ (n : ℕ). n ∷ []) (eqb-true _ _ g.0) })

octet_first : (n : ℕ) (rest : List ℕ) → octet_at (n ∷ rest) ≡ Some (n, rest)
unfolding octet_at
octet_first n rest = refl

constant_again : (c : ℕ) (u : Unit {0}) (os rest : List ℕ) → os ≡ c ∷ [] → read_part (constant c) (os ++ rest) ≡ Some (u, rest)
constant_again c u os rest m = rw (m, octet_first c rest, eq-eqb c c refl) refl

abbrev Halves : (low high : Half) → ℕ → HalfValue low × HalfValue high → List ℕ → Type 0
Halves low high n v os = SpellsHalf low v.0 (n % 16) × SpellsHalf high v.1 (n / 16) × (os ≡ [])

halves_after : (low high : Half) (n : ℕ) → List ℕ → Option ((HalfValue low × HalfValue high) × List ℕ)
halves_after low high n os = half_of low (n % 16) >>= λ l. half_of high (n / 16) >>= λ h. Some ((l, h), os)

halves_take : (low high : Half) (n : ℕ) (os rest : List ℕ) (v : HalfValue low × HalfValue high)
    → halves_after low high n os ≡ Some (v, rest) → Takes (Halves low high n) os v rest
unfolding halves_after
halves_take low high n os rest v e =
    let last : (HalfValue low × HalfValue high) × List ℕ = (v, rest) in
    let f : HalfValue low → Option ((HalfValue low × HalfValue high) × List ℕ) =
    λ l. half_of high (n / 16) >>= λ h. Some ((l, h), os) in
    let a = bind_ok (half_of low (n % 16)) f last e in
    let g : HalfValue high → Option ((HalfValue low × HalfValue high) × List ℕ) = λ h. Some ((a.0, h), os) in
    let b = bind_ok (half_of high (n / 16)) g last a.2 in
    let made : (HalfValue low × HalfValue high) × List ℕ = ((a.0, b.0), os) in
    subst (λ (y : (HalfValue low × HalfValue high) × List ℕ). Takes (Halves low high n) os y.0 y.1) (some_is made last b.2)
    (record { taken = []; parts = refl; spelled = (half_takes low (n % 16) a.0 a.1, half_takes high (n / 16) b.0 b.1, refl) })

exact_halves_after : (low high : Half) (n : ℕ) → Exact (Halves low high n) (halves_after low high n)
unfolding halves_after
exact_halves_after low high n = record {
  again = λ v os rest m. rw (half_again low (n % 16) v.0 m.0, half_again high (n / 16) v.1 m.1, m.2) refl;
  takes = λ os rest v e. halves_take low high n os rest v e;
}

halves_to : (low high : Half) (v : HalfValue low × HalfValue high) (os : List ℕ) → Bind IsOctet (Halves low high) v os
    → SpellsPart (halves low high) v os
halves_to low high v os m = (m.0, m.3 ∙ rw (m.4, m.5.2) refl, m.5.0, m.5.1)

exact_halves : (low high : Half) → Exact (SpellsPart (halves low high)) (read_part (halves low high))
unfolding halves_after
exact_halves low high =
    exact_same (Bind IsOctet (Halves low high)) (SpellsPart (halves low high))
    (λ os. octet_at os >>= λ n. halves_after low high n.0 n.1) (read_part (halves low high))
    (halves_to low high) (λ v os m. (m.0, m.0 ∷ [], [], m.1, refl, (m.2, m.3, refl))) (λ os. refl)
    (exact_bind IsOctet (Halves low high) octet_at (halves_after low high) exact_octet (exact_halves_after low high))

lv_to : (c : Content) (v : ContentValue c) (os : List ℕ) → Bind IsShort (λ xs. Given (content_of c xs)) v os
    → SpellsPart (lv c) v os
lv_to c v os m = (m.0, m.3 ∙ rw (m.4, m.5.1) (append-nil (length m.0 ∷ m.0)), content_takes c m.0 v m.5.0)

lv_from : (c : Content) (v : ContentValue c) (os : List ℕ) → SpellsPart (lv c) v os
    → Bind IsShort (λ xs. Given (content_of c xs)) v os
lv_from c v os m = (m.0, length m.0 ∷ m.0, [], m.1 ∙ sym (append-nil (length m.0 ∷ m.0)), refl, (content_again c m.0 v m.2, refl))

exact_lv : (c : Content) → Exact (SpellsPart (lv c)) (read_part (lv c))
exact_lv c =
    exact_same (Bind IsShort (λ xs. Given (content_of c xs))) (SpellsPart (lv c))
    (λ os. short_at os >>= λ xs. content_of c xs.0 >>= λ v. Some (v, xs.1)) (read_part (lv c))
    (lv_to c) (lv_from c) (λ os. refl)
    (exact_bind IsShort (λ xs. Given (content_of c xs)) short_at (λ xs os. content_of c xs >>= λ v. Some (v, os)) exact_short
    (λ xs. exact_given (content_of c xs)))

pub exact_part : (p : Part) → Exact (SpellsPart p) (read_part p)
exact_part (constant c) =
    record { again = λ u os rest m. constant_again c u os rest m; takes = λ os rest u e. constant_takes c os rest u e }
exact_part octet = let e = exact_octet in record { again = e.again; takes = e.takes }
exact_part (halves low high) = exact_halves low high
exact_part (fixed n) = let e = exact_fixed n in record { again = e.again; takes = e.takes }
exact_part (lv c) = exact_lv c
exact_part long = let e = exact_long in record { again = e.again; takes = e.takes }

-- ---- parts one after the other

pub exact_parts : (ps : List Part) → Exact (SpellsParts ps) (read_parts ps)
exact_parts [] = record {
  again = λ v os rest m. rw m refl;
  takes = λ os rest v e.
      let made : Unit {0} × List ℕ = (tt, os) in
      let last : Unit {0} × List ℕ = (v, rest) in
      subst (λ (y : Unit {0} × List ℕ). Takes (SpellsParts []) os y.0 y.1) (some_is made last e)
      (record { taken = []; parts = refl; spelled = refl });
}
exact_parts (p ∷ ps) = record {
  again = λ v os rest m.
      let whole : os ++ rest ≡ m.0 ++ (m.1 ++ rest) = ap (λ (l : List ℕ). l ++ rest) m.2 ∙ append_assoc m.0 m.1 rest in
      rw (whole, (exact_part p).again v.0 m.0 (m.1 ++ rest) m.3, (exact_parts ps).again v.1 m.1 rest m.4) refl;
  takes = λ os rest v e.
      let last : Values (p ∷ ps) × List ℕ = (v, rest) in
      let f : Value p × List ℕ → Option (Values (p ∷ ps) × List ℕ) = λ x. read_parts ps x.1 >>= λ y. Some ((x.0, y.0), y.1) in
      let a = bind_ok (read_part p os) f last e in
      let g : Values ps × List ℕ → Option (Values (p ∷ ps) × List ℕ) = λ y. Some ((a.0.0, y.0), y.1) in
      let b = bind_ok (read_parts ps a.0.1) g last a.2 in
      let first = (exact_part p).takes os a.0.1 a.0.0 a.1 in
      let second = (exact_parts ps).takes a.0.1 b.0.1 b.0.0 b.1 in
      let made : Values (p ∷ ps) × List ℕ = ((a.0.0, b.0.0), b.0.1) in
      subst (λ (y : Values (p ∷ ps) × List ℕ). Takes (SpellsParts (p ∷ ps)) os y.0 y.1) (some_is made last b.2)
      (record {
        taken = first.taken ++ second.taken;
        parts = first.parts ∙ ap (λ (l : List ℕ). first.taken ++ l) second.parts
            ∙ sym (append_assoc first.taken second.taken b.0.1);
        spelled = (first.taken, second.taken, refl, first.spelled, second.spelled);
      });
}
