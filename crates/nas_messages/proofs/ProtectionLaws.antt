-- The protected form: what is split is spelled so, and what is spelled is split.
use Rattle.std.proofs.Common.{◌≡◌, ℕ, ◌+◌, ◌*◌, ◌/◌, ◌%◌, ◌≤◌, ◌&&◌, Bool, true, false, cond, eqb, leb, List, [], ◌∷◌, length, drop, slice_index, Option, Some, None, refl, sym, ap, subst, ◌∙◌, arith}
use Rattle.std.specs.Prelude.{option_map}
use Rattle.std.proofs.lemmas.Bool.{eqb-true, leb-true, le-leb}
use Rattle.nas_elements.specs.Exact.{some_is, both_true}
use Rattle.nas_messages.specs.declared.protection.SecurityHeader.{SecurityHeader}
use Rattle.nas_messages.specs.declared.protection.SecurityHeader.TheVariants.{IntegrityProtected, IntegrityProtectedCiphered, NewContext, NewContextCiphered}
use Rattle.nas_messages.specs.declared.protection.Protected.{Protected}
use Rattle.nas_messages.specs.Protection.{header_code, header_of, protected_form, protected_from, split}

six_and_more : (os : List ℕ) → 6 ≤ length os → os ≡ slice_index os 0 ∷ slice_index os 1 ∷ slice_index os 2 ∷ slice_index os 3 ∷ slice_index os 4 ∷ slice_index os 5 ∷ drop 6 os
six_and_more ([]) l = absurd (omega (arith, l))
six_and_more (v0 ∷ []) l = absurd (omega (arith, l))
six_and_more (v0 ∷ v1 ∷ []) l = absurd (omega (arith, l))
six_and_more (v0 ∷ v1 ∷ v2 ∷ []) l = absurd (omega (arith, l))
six_and_more (v0 ∷ v1 ∷ v2 ∷ v3 ∷ []) l = absurd (omega (arith, l))
six_and_more (v0 ∷ v1 ∷ v2 ∷ v3 ∷ v4 ∷ []) l = absurd (omega (arith, l))
six_and_more (v0 ∷ v1 ∷ v2 ∷ v3 ∷ v4 ∷ v5 ∷ os) l = refl

four : (os : List ℕ) → length os ≡ 4 → os ≡ slice_index os 0 ∷ slice_index os 1 ∷ slice_index os 2 ∷ slice_index os 3 ∷ []
four ([]) e = absurd (omega (arith, e))
four (v0 ∷ []) e = absurd (omega (arith, e))
four (v0 ∷ v1 ∷ []) e = absurd (omega (arith, e))
four (v0 ∷ v1 ∷ v2 ∷ []) e = absurd (omega (arith, e))
four (v0 ∷ v1 ∷ v2 ∷ v3 ∷ []) e = refl
four (v0 ∷ v1 ∷ v2 ∷ v3 ∷ more ∷ rest) e = absurd (omega (arith, e))

-- a header's code, and the header of a code

next_header : (c k : ℕ) (h0 h : SecurityHeader) (others : Option SecurityHeader) → header_code h0 ≡ k
    → (others ≡ Some h → header_code h ≡ c) → cond (eqb c k) (Some h0) others ≡ Some h → header_code h ≡ c
next_header c k h0 h others own rest e = go (eqb c k) refl e
  where
    go : (b : Bool) → eqb c k ≡ b → cond b (Some h0) others ≡ Some h → header_code h ≡ c
    go true q e = let same : h0 ≡ h = cc in ap header_code (sym same) ∙ own ∙ sym (eqb-true c k q)
    go false q e = rest e

header_is : (c : ℕ) (h : SecurityHeader) → header_of c ≡ Some h → header_code h ≡ c
unfolding header_of
header_is c h =
    next_header c 1 IntegrityProtected h _ refl (
    next_header c 2 IntegrityProtectedCiphered h _ refl (
    next_header c 3 NewContext h _ refl (
    next_header c 4 NewContextCiphered h _ refl (λ e. absurd cc))))

own_code : (h : SecurityHeader) → header_of (header_code h) ≡ Some h
unfolding header_of
own_code IntegrityProtected = refl
own_code IntegrityProtectedCiphered = refl
own_code NewContext = refl
own_code NewContextCiphered = refl

-- what is split is in the protected form

from_header : (os : List ℕ) (o : Option SecurityHeader) (p : Protected (List ℕ))
    → option_map (λ header. protected_from header os) o ≡ Some p → (h : SecurityHeader) × (o ≡ Some h) × (protected_from h os ≡ p)
from_header os None p e = absurd cc
from_header os (Some h) p e = (h, refl, some_is (protected_from h os) p e)

where_so : {A : Type 0} (b : Bool) (o : Option A) (y : A) → cond b o None ≡ Some y → (b ≡ true) × (o ≡ Some y)
where_so true o y e = (refl, e)
where_so false o y e = absurd cc

-- six octets and more, of which the first is of a protected message, are in the protected form
pub parts_form : (os : List ℕ) (h : SecurityHeader) → 6 ≤ length os → slice_index os 0 % 16 ≡ 7
    → header_of (slice_index os 0 / 16) ≡ Some h → os ≡ protected_form (protected_from h os)
unfolding protected_form
parts_form os h long low e =
    let code : header_code h ≡ slice_index os 0 / 16 = header_is (slice_index os 0 / 16) h e in
    let kind : slice_index os 0 ≡ header_code h * 16 + 7 = omega (arith, low, code) in
    six_and_more os long ∙ ap (λ (n : ℕ). n ∷ slice_index os 1 ∷ slice_index os 2 ∷ slice_index os 3 ∷ slice_index os 4 ∷ slice_index os 5 ∷ drop 6 os) kind

pub split_takes : (os : List ℕ) (p : Protected (List ℕ)) → split os ≡ Some p → (os ≡ protected_form p) × (length p.mac ≡ 4)
unfolding split
split_takes os p e =
    let g =
    where_so (leb 6 (length os) && eqb (slice_index os 0 % 16) 7)
    (option_map (λ header. protected_from header os) (header_of (slice_index os 0 / 16))) p e in
    let a = both_true (leb 6 (length os)) (eqb (slice_index os 0 % 16) 7) g.0 in
    let h = from_header os (header_of (slice_index os 0 / 16)) p g.1 in
    let whole = parts_form os h.0 (leb-true _ _ a.0) (eqb-true _ _ a.1) h.1 in
    subst (λ (x : Protected (List ℕ)). (os ≡ protected_form x) × (length x.mac ≡ 4)) h.2 (whole, refl)

-- what is in the protected form is split

abbrev made : SecurityHeader → List ℕ → ℕ → List ℕ → Protected (List ℕ)
made header mac sequence message = record { header = header; mac = mac; sequence = sequence; message = message }

explicit : (h : SecurityHeader) (a b c d s : ℕ) (m : List ℕ)
    → split (protected_form (made h (a ∷ b ∷ c ∷ d ∷ []) s m)) ≡ Some (made h (a ∷ b ∷ c ∷ d ∷ []) s m)
unfolding split protected_form
explicit h a b c d s m =
    let long : leb 6 (length ((header_code h * 16 + 7) ∷ a ∷ b ∷ c ∷ d ∷ s ∷ m)) ≡ true = le-leb _ _ (omega arith) in
    let low : (header_code h * 16 + 7) % 16 ≡ 7 = omega arith in
    let high : (header_code h * 16 + 7) / 16 ≡ header_code h = omega arith in
    rw (long, low, high, own_code h) refl

pub split_again : (os : List ℕ) (p : Protected (List ℕ)) → os ≡ protected_form p → length p.mac ≡ 4 → split os ≡ Some p
split_again os p e right =
    let whole = four p.mac right in
    let found =
    explicit p.header (slice_index p.mac 0) (slice_index p.mac 1) (slice_index p.mac 2)
    (slice_index p.mac 3) p.sequence p.message in
    ap split e ∙ subst (λ (x : List ℕ). split (protected_form (made p.header x p.sequence p.message)) ≡ Some (made p.header x p.sequence p.message)) (sym whole) found
