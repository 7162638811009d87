-- The optional part: what is read is spelled so, and what is spelled is read.
use Rattle.std.proofs.Common.{◌≡◌, ℕ, zero, suc, ◌*◌, ◌/◌, ◌<◌, ◌≤◌, true, false, List, [], ◌∷◌, ◌++◌, length, Option, Some, None, refl, sym, ap, subst, ◌∙◌, arith}
use Rattle.std.specs.Prelude.{is_some, unwrap_or}
use Rattle.std.proofs.lemmas.Bool.{eq-eqb, ne_eqb}
use Rattle.std.proofs.lemmas.List.{length-append, append-nil}
use Rattle.nas_elements.specs.declared.rule.Domain.{Domain}
use Rattle.nas_elements.specs.declared.rule.Element.{Element}
use Rattle.nas_elements.specs.declared.rule.Rule.{Rule}
use Rattle.nas_elements.specs.declared.rule.Rule.TheVariants.{Itself, Fixed, ByOctet, ByTwo}
use Rattle.nas_elements.specs.Parts.{◌>>=◌, octet_at, fixed_at, short_at, long_at}
use Rattle.nas_elements.specs.Optionals.{rule_of, SpellsBy, SpellsElement, AreElements, first, by_rule, element_at, parted, elements, elements_in}
use Rattle.nas_elements.specs.Exact.{Exact, bind_ok, some_is, exact_same, Bind, exact_bind, Nothing, exact_ok, IsOctet, exact_octet, Fixed as IsFixed, exact_fixed, IsShort, exact_short, IsLong, exact_long}

abbrev With : ℕ → (List ℕ → List ℕ → Type 0) → Element (List ℕ) → List ℕ → Type 0
With i S = Bind S (λ xs. Nothing (record { iei = i; octets = xs }))

exact_with : (i : ℕ) (S : List ℕ → List ℕ → Type 0) (r : List ℕ → Option (List ℕ × List ℕ)) → Exact S r
    → Exact (With i S) (λ os. r os >>= λ x. Some (record { iei = i; octets = x.0 }, x.1))
exact_with i S r h =
    exact_bind S (λ xs. Nothing (record { iei = i; octets = xs })) r (λ xs os. Some (record { iei = i; octets = xs }, os)) h
    (λ xs. exact_ok (record { iei = i; octets = xs }))

-- the element has the identifier, and its octets are spelled so
abbrev Has : ℕ → (List ℕ → List ℕ → Type 0) → Element (List ℕ) → List ℕ → Type 0
Has i S e os = (e.iei ≡ i) × S e.octets os

with_to : (i : ℕ) (S : List ℕ → List ℕ → Type 0) (e : Element (List ℕ)) (os : List ℕ) → With i S e os → Has i S e os
with_to i S e os m =
    let whole : os ≡ m.1 = m.3 ∙ ap (λ (l : List ℕ). m.1 ++ l) m.5.1 ∙ append-nil m.1 in (
      ap (λ (x : Element (List ℕ)). x.iei) m.5.0,
      subst (λ (x : Element (List ℕ)). S x.octets os) (sym m.5.0)
          (subst (λ (l : List ℕ). S m.0 l) (sym whole) m.4),
    )

with_from : (i : ℕ) (S : List ℕ → List ℕ → Type 0) (e : Element (List ℕ)) (os : List ℕ) → Has i S e os → With i S e os
with_from i S e os m =
    (e.octets, os, [], sym (append-nil os), m.1, (ap (λ (n : ℕ). record { iei = n; octets = e.octets }) m.0, refl))

exact_has : (i : ℕ) (S : List ℕ → List ℕ → Type 0) (r : List ℕ → Option (List ℕ × List ℕ)) → Exact S r
    → Exact (Has i S) (λ os. r os >>= λ x. Some (record { iei = i; octets = x.0 }, x.1))
exact_has i S r h =
    exact_same (With i S) (Has i S) (λ os. r os >>= λ x. Some (record { iei = i; octets = x.0 }, x.1))
    (λ os. r os >>= λ x. Some (record { iei = i; octets = x.0 }, x.1)) (with_to i S) (with_from i S) (λ os. refl)
    (exact_with i S r h)

exact_by : (r : Rule) (i : ℕ) → Exact (SpellsBy r i) (by_rule r i)
exact_by Itself i = let e = exact_ok {A = Element (List ℕ)} (record { iei = i / 16 * 16; octets = i ∷ [] }) in
    record { again = e.again; takes = e.takes }
exact_by (Fixed n) i = let e = exact_has i (IsFixed n) (fixed_at n) (exact_fixed n) in
    exact_same (Has i (IsFixed n)) (SpellsBy (Fixed n) i)
    (λ os. fixed_at n os >>= λ x. Some (record { iei = i; octets = x.0 }, x.1)) (by_rule (Fixed n) i)
    (λ x os m. (m.0, m.1.0, m.1.1)) (λ x os m. (m.0, (m.1, m.2))) (λ os. refl) e
exact_by ByOctet i = let e = exact_has i IsShort short_at exact_short in record { again = e.again; takes = e.takes }
exact_by ByTwo i = let e = exact_has i IsLong long_at exact_long in
    exact_same (Has i IsLong) (SpellsBy ByTwo i) (λ os. long_at os >>= λ x. Some (record { iei = i; octets = x.0 }, x.1))
    (by_rule ByTwo i) (λ x os m. (m.0, m.1.0, m.1.1, m.1.2, m.1.3)) (λ x os m. (m.0, (m.1, m.2, m.3, m.4))) (λ os. refl) e

element_to : (domain : Domain) (e : Element (List ℕ)) (os : List ℕ) → Bind IsOctet (λ i. SpellsBy (rule_of domain i) i) e os
    → SpellsElement domain e os
element_to domain e os m = (m.0, m.2, m.3 ∙ ap (λ (l : List ℕ). l ++ m.2) m.4, m.5)

pub exact_element : (domain : Domain) → Exact (SpellsElement domain) (element_at domain)
unfolding element_at
exact_element domain =
    exact_same (Bind IsOctet (λ i. SpellsBy (rule_of domain i) i)) (SpellsElement domain)
    (λ os. octet_at os >>= λ i. by_rule (rule_of domain i.0) i.0 i.1) (element_at domain)
    (element_to domain) (λ e os m. (m.0, m.0 ∷ [], m.1, m.2, refl, m.3)) (λ os. refl)
    (exact_bind IsOctet (λ i. SpellsBy (rule_of domain i) i) octet_at (λ i. by_rule (rule_of domain i) i) exact_octet
    (λ i. exact_by (rule_of domain i) i))

-- an element takes at least one octet
pub shorter : (domain : Domain) (os rest : List ℕ) (e : Element (List ℕ)) → element_at domain os ≡ Some (e, rest)
    → length rest < length os
shorter domain os rest e h =
    let t = (exact_element domain).takes os rest e h in
    let len = ap length t.parts in
    let front = ap length t.spelled.2 in
    omega (arith, len, front, length-append t.taken rest)

-- ---- enough is enough

go : (n m : ℕ) (domain : Domain) (os : List ℕ) (x : Option (Element (List ℕ) × List ℕ)) → element_at domain os ≡ x
    → ((e : Element (List ℕ)) (after : List ℕ) → element_at domain os ≡ Some (e, after) → parted n domain after
    ≡ parted m domain after)
    → (x >>= λ e. parted n domain e.1 >>= λ es. Some (e.0 ∷ es)) ≡ (x >>= λ e. parted m domain e.1 >>= λ es. Some (e.0 ∷ es))
go n m domain os None h same = refl
go n m domain os (Some e) h same = ap (λ (es : Option (List (Element (List ℕ)))). es >>= λ more. Some (e.0 ∷ more)) (same e.0 e.1 h)

enough : (n m : ℕ) (domain : Domain) (os : List ℕ) → length os ≤ n → length os ≤ m → parted n domain os ≡ parted m domain os
unfolding parted
enough n m domain [] p q = refl
enough zero m domain (o ∷ os) p q = absurd (omega (arith, p))
enough (suc n) zero domain (o ∷ os) p q = absurd (omega (arith, q))
enough (suc n) (suc m) domain (o ∷ os) p q =
    go n m domain (o ∷ os) (element_at domain (o ∷ os)) refl
    (λ e after h. let less = shorter domain (o ∷ os) after e h in
    enough n m domain after (omega (arith, less, p)) (omega (arith, less, q)))

abbrev next_of : Domain → Option (Element (List ℕ) × List ℕ) → Option (List (Element (List ℕ)))
next_of domain x = x >>= λ e. elements domain e.1 >>= λ es. Some (e.0 ∷ es)

pub step : (domain : Domain) (o : ℕ) (os : List ℕ) → elements domain (o ∷ os) ≡ next_of domain (element_at domain (o ∷ os))
unfolding elements parted
step domain o os = go (element_at domain (o ∷ os)) refl
  where
    go : (x : Option (Element (List ℕ) × List ℕ)) → element_at domain (o ∷ os) ≡ x
        → (x >>= λ e. parted (length os) domain e.1 >>= λ es. Some (e.0 ∷ es)) ≡ next_of domain x
    go None h = refl
    go (Some e) h =
        let less = shorter domain (o ∷ os) e.1 e.0 h in
        ap (λ (es : Option (List (Element (List ℕ)))). es >>= λ more. Some (e.0 ∷ more))
        (enough (length os) (length e.1) domain e.1 (omega (arith, less)) (omega arith))

pub none_left : (domain : Domain) → elements domain [] ≡ Some []
unfolding elements parted
none_left domain = refl

-- ---- laws

takes_by : (n : ℕ) (domain : Domain) (os : List ℕ) (es : List (Element (List ℕ))) → parted n domain os ≡ Some es
    → AreElements domain es os
unfolding parted
takes_by n domain [] es h = subst (λ (x : List (Element (List ℕ))). AreElements domain x []) (some_is [] es h) refl
takes_by zero domain (o ∷ os) es h = absurd cc
takes_by (suc n) domain (o ∷ os) es h =
    let f : Element (List ℕ) × List ℕ → Option (List (Element (List ℕ))) = λ e. parted n domain e.1 >>= λ more. Some (e.0 ∷ more) in
    let a = bind_ok (element_at domain (o ∷ os)) f es h in
    let g : List (Element (List ℕ)) → Option (List (Element (List ℕ))) = λ more. Some (a.0.0 ∷ more) in
    let b = bind_ok (parted n domain a.0.1) g es a.2 in
    let t = (exact_element domain).takes (o ∷ os) a.0.1 a.0.0 a.1 in
    let more = takes_by n domain a.0.1 b.0 b.1 in
    subst (λ (x : List (Element (List ℕ))). AreElements domain x (o ∷ os)) (some_is (a.0.0 ∷ b.0) es b.2)
    (t.taken, a.0.1, t.parts, t.spelled, more)

pub elements_take : (domain : Domain) (os : List ℕ) (es : List (Element (List ℕ))) → elements domain os ≡ Some es
    → AreElements domain es os
unfolding elements
elements_take domain os es h = takes_by (length os) domain os es h

pub elements_again : (domain : Domain) (es : List (Element (List ℕ))) (os : List ℕ) → AreElements domain es os
    → elements domain os ≡ Some es
elements_again domain [] os m = rw m (none_left domain)
elements_again domain (e ∷ es) os m =
    let i = m.3.0 in
    let tail = m.3.1 in
    let whole : os ≡ i ∷ (tail ++ m.1) = m.2 ∙ ap (λ (l : List ℕ). l ++ m.1) m.3.2 in
    let read : element_at domain (i ∷ (tail ++ m.1)) ≡ Some (e, m.1) =
    ap (λ (l : List ℕ). element_at domain (l ++ m.1)) (sym m.3.2) ∙ (exact_element domain).again e m.0 m.1 m.3 in
    rw whole (step domain i (tail ++ m.1) ∙ rw (read, elements_again domain es m.1 m.4) refl)

-- ---- for the loops

pub none_is : (o : Option (List (Element (List ℕ)))) → is_some o ≡ false → o ≡ None
none_is None h = refl
none_is (Some es) h = absurd cc

step_of : (domain : Domain) (os after : List ℕ) (e : Element (List ℕ)) → element_at domain os ≡ Some (e, after)
    → elements domain os ≡ next_of domain (Some (e, after))
step_of domain [] after e h = absurd (let l = shorter domain [] after e h in omega (arith, l))
step_of domain (o ∷ os) after e h = step domain o os ∙ ap (next_of domain) h

is_some_next : (o : Option (List (Element (List ℕ)))) (e : Element (List ℕ)) → is_some (o >>= λ es. Some (e ∷ es)) ≡ is_some o
is_some_next None e = refl
is_some_next (Some es) e = refl

pub still : (domain : Domain) (os after : List ℕ) (e : Element (List ℕ)) → element_at domain os ≡ Some (e, after)
    → is_some (elements domain os) ≡ is_some (elements domain after)
still domain os after e h = ap is_some (step_of domain os after e h) ∙ is_some_next (elements domain after) e

pub broken : (domain : Domain) (os : List ℕ) → 0 < length os → element_at domain os ≡ None → elements domain os ≡ None
broken domain [] l h = absurd (omega (arith, l))
broken domain (o ∷ os) l h = step domain o os ∙ ap (next_of domain) h

pub broken_all : (domain : Domain) (rest os : List ℕ) → is_some (elements domain rest) ≡ is_some (elements domain os)
    → 0 < length rest → element_at domain rest ≡ None → elements domain os ≡ None
broken_all domain rest os inv l h = none_is (elements domain os) (sym inv ∙ ap is_some (broken domain rest l h))

pub done : (domain : Domain) (rest os : List ℕ) → is_some (elements domain rest) ≡ is_some (elements domain os) → length rest ≡ 0
    → is_some (elements domain os) ≡ true
done domain [] os inv l = sym inv ∙ ap is_some (none_left domain)
done domain (o ∷ rest) os inv l = absurd (omega (arith, l))

pub nothing_left : (domain : Domain) (rest : List ℕ) → length rest ≡ 0 → elements_in domain rest ≡ []
nothing_left domain [] l = ap (λ (o : Option (List (Element (List ℕ)))). unwrap_or o []) (none_left domain)
nothing_left domain (o ∷ rest) l = absurd (omega (arith, l))

pub never_broken : (domain : Domain) (rest : List ℕ) → is_some (elements domain rest) ≡ true → 0 < length rest
    → element_at domain rest ≡ None → ⊥
never_broken domain rest inv l h =
    let e = broken domain rest l h in absurd (let f : is_some (elements domain rest) ≡ false = ap is_some e in cc)

unwrapped : (o : Option (List (Element (List ℕ)))) (e : Element (List ℕ)) → is_some o ≡ true
    → unwrap_or (o >>= λ es. Some (e ∷ es)) [] ≡ e ∷ unwrap_or o []
unwrapped None e h = absurd cc
unwrapped (Some es) e h = refl

pub in_step : (domain : Domain) (os after : List ℕ) (e : Element (List ℕ)) → element_at domain os ≡ Some (e, after)
    → is_some (elements domain after) ≡ true → elements_in domain os ≡ e ∷ elements_in domain after
in_step domain os after e h s =
    ap (λ (o : Option (List (Element (List ℕ)))). unwrap_or o []) (step_of domain os after e h)
    ∙ unwrapped (elements domain after) e s

pub some_unwrapped : (o : Option (List (Element (List ℕ)))) → is_some o ≡ true → o ≡ Some (unwrap_or o [])
some_unwrapped None h = absurd cc
some_unwrapped (Some es) h = refl

pub first_here : (i : ℕ) (e : Element (List ℕ)) (es : List (Element (List ℕ))) → e.iei ≡ i → first i (e ∷ es) ≡ Some e.octets
first_here i e es h = rw (eq-eqb _ _ h) refl

pub first_later : (i : ℕ) (e : Element (List ℕ)) (es : List (Element (List ℕ))) → (e.iei ≡ i → ⊥) → first i (e ∷ es) ≡ first i es
first_later i e es h = rw (ne_eqb e.iei i h) refl
