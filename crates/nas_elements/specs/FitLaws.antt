-- What is read of octets may be written.
use Rattle.std.proofs.Common.{◌≡◌, ℕ, zero, suc, ◌+◌, ◌*◌, ◌/◌, ◌%◌, ◌^◌, ◌<◌, ◌≤◌, ◌&&◌, Bool, true, false, cond, eqb, leb, not, List, [], ◌∷◌, ◌++◌, length, slice_index, Option, Some, refl, sym, ap, subst, ◌∙◌, arith}
use Rattle.std.specs.Int.{w32, from_be_bytes}
use Rattle.std.proofs.lemmas.Bool.{eqb-true, leb-true}
use Rattle.nas_elements.specs.declared.identity.Guti.{Guti}
use Rattle.nas_elements.specs.declared.identity.MobileIdentity.TheVariants.{Imsi, Temporary}
use Rattle.nas_elements.specs.declared.rule.Domain.{Domain}
use Rattle.nas_elements.specs.declared.rule.Domain.TheVariants.{Emm, Esm}
use Rattle.nas_elements.specs.declared.rule.Element.{Element}
use Rattle.nas_elements.specs.declared.rule.Rule.{Rule}
use Rattle.nas_elements.specs.declared.rule.Rule.TheVariants.{Itself, Fixed, ByOctet, ByTwo}
use Rattle.nas_elements.specs.Identities.{SpellsGuti, GutiFits, SpellsTaiList}
use Rattle.nas_elements.specs.Parts.{Half, spare, three, flagged, four, exactly, Content, between, identity, guti, tai_list, label, Part, constant, octet, halves, fixed, lv, long, HalfValue, ContentValue, Value, Values, SpellsHalf, SpellsContent, SpellsPart, SpellsParts, HalfFits, ContentFits, PartFits, Fit}
use Rattle.nas_elements.specs.Optionals.{cause_rule, rule_of, SpellsBy, SpellsElement, AreElements, first, FitsBy}
use Rattle.nas_elements.specs.Parts.{Small}
use Rattle.nas_elements.specs.Rows.{Row, Keep, element, flag, iei_of, is_set, kept_from, as_written, is_sound, Kept, firsts, RowValue, SpellsRow, OptionalFits, KeptFit, contains, are_distinct, RowFits}
use Rattle.nas_elements.specs.Exact.{both_true}
use Rattle.nas_elements.specs.WritingLaws.{itself}

pub small_each : (os : List ℕ) → ((i : ℕ) → slice_index os i < 256) → Small os
small_each [] f = tt
small_each (o ∷ os) f = (f 0, small_each os (λ i. f (suc i)))

left : (xs ys : List ℕ) → Small (xs ++ ys) → Small xs
left [] ys s = tt
left (x ∷ xs) ys s = (s.0, left xs ys s.1)

right : (xs ys : List ℕ) → Small (xs ++ ys) → Small ys
right [] ys s = s
right (x ∷ xs) ys s = right xs ys s.1

at_place : (xs : List ℕ) → Small xs → (i : ℕ) → i < length xs → slice_index xs i < 256
at_place [] s i l = absurd (omega (arith, l))
at_place (x ∷ xs) s zero l = s.0
at_place (x ∷ xs) s (suc i) l = at_place xs s.1 i (omega (arith, l))

half_fits : (h : Half) (v : HalfValue h) (n : ℕ) → n < 16 → SpellsHalf h v n → HalfFits h v
half_fits spare v n l s = tt
half_fits three v n l s = omega (arith, s)
half_fits flagged v n l s = let e = s.0 in omega (arith, e)
half_fits four v n l s = omega (arith, l, s)
half_fits (exactly c) v n l s = omega (arith, s)

in_four : (a b c d : ℕ) → a < 256 → b < 256 → c < 256 → d < 256 → from_be_bytes w32 (a ∷ b ∷ c ∷ d ∷ []) < 2 ^ 32
in_four a b c d p q r s = omega (arith, p, q, r, s)

four_octets : (t : List ℕ) → length t ≡ 4 → Small t → from_be_bytes w32 t < 2 ^ 32
four_octets [] e s = absurd (omega (arith, e))
four_octets (a ∷ []) e s = absurd (omega (arith, e))
four_octets (a ∷ b ∷ []) e s = absurd (omega (arith, e))
four_octets (a ∷ b ∷ c ∷ []) e s = absurd (omega (arith, e))
four_octets (a ∷ b ∷ c ∷ d ∷ []) e s = in_four a b c d s.0 s.1.0 s.1.1.0 s.1.1.1.0
four_octets (a ∷ b ∷ c ∷ d ∷ more ∷ rest) e s = absurd (omega (arith, e))

guti_fits : (g : Guti) (os : List ℕ) → Small os → SpellsGuti g os → GutiFits g
unfolding SpellsGuti
guti_fits g os s m =
    let whole : Small (0xf6 ∷ g.plmn.octets ++ g.group ++ g.code ∷ m.0) = subst Small m.1 s in
    let last = right (g.plmn.octets ++ g.group) (g.code ∷ m.0) whole.1 in
    (m.2, m.3, subst (λ (n : ℕ). n < 2 ^ 32) m.5 (four_octets m.0 m.4 last.1))

content_fits : (c : Content) (v : ContentValue c) (os : List ℕ) → Small os → SpellsContent c v os → ContentFits c v
unfolding SpellsTaiList
content_fits (between lo hi) v os s m = (m.1, m.2)
content_fits identity (Imsi ds) os s m = m.1
content_fits identity (Temporary g) os s m = guti_fits g os s m
content_fits guti v os s m = guti_fits v os s m
content_fits tai_list v os s m = (m.1, m.2)
content_fits label v os s m = (m.1, m.2)

part_fits : (p : Part) (v : Value p) (os : List ℕ) → Small os → SpellsPart p v os → PartFits p v
part_fits (constant c) v os s m = tt
part_fits octet v os s m = tt
part_fits (halves low high) v os s m =
    let whole : Small (m.0 ∷ []) = subst Small m.1 s in
    let l = whole.0 in
    (half_fits low v.0 (m.0 % 16) (omega arith) m.2, half_fits high v.1 (m.0 / 16) (omega (arith, l)) m.3)
part_fits (fixed n) v os s m = m.1
part_fits (lv c) v os s m =
    let whole : Small (length m.0 ∷ m.0) = subst Small m.1 s in
    content_fits c v m.0 whole.1 m.2
part_fits long v os s m =
    let whole : Small (m.0 ∷ m.1 ∷ v) = subst Small m.2 s in
    let a = whole.0 in
    let b = whole.1.0 in
    let e = m.3 in
    omega (arith, a, b, e)

parts_fit : (ps : List Part) (v : Values ps) (os : List ℕ) → Small os → SpellsParts ps v os → Fit ps v
parts_fit [] v os s m = tt
parts_fit (p ∷ ps) v os s m =
    let whole : Small (m.0 ++ m.1) = subst Small m.2 s in
    (part_fits p v.0 m.0 (left m.0 m.1 whole) m.3, parts_fit ps v.1 m.1 (right m.0 m.1 whole) m.4)

-- ---- the optional part

-- one octet alone only where bit 8 is set
not_itself : (b : Bool) (r others : Rule) → (r ≡ Itself → ⊥) → cond b r others ≡ Itself → others ≡ Itself
not_itself true r others n e = absurd (n e)
not_itself false r others n e = e

cause_other : (domain : Domain) → cause_rule domain ≡ Itself → ⊥
cause_other Emm e = absurd cc
cause_other Esm e = absurd cc

others_not : (domain : Domain) (i : ℕ) (b : Bool) → leb 128 i ≡ b → rule_of domain i ≡ Itself → b ≡ true
unfolding rule_of
others_not domain i true q e = refl
others_not domain i false q e =
    let rest = rw q at e in
    absurd (last_rule (
    not_itself (eqb i 0x58) (cause_rule domain) ByOctet (cause_other domain) (
    not_itself (eqb i 0x5a) (Fixed 1) _ fixed_other (
    not_itself (eqb i 0x53) (Fixed 1) _ fixed_other (
    not_itself (eqb i 0x55) (Fixed 4) _ fixed_other (
    not_itself (eqb i 0x5c) (Fixed 2) _ fixed_other (
    not_itself (eqb i 0x52) (Fixed 5) _ fixed_other (
    not_itself (eqb i 0x19) (Fixed 3) _ fixed_other (
    not_itself (eqb i 0x13) (Fixed 5) _ fixed_other (
    not_itself (leb 0x78 i) ByTwo _ two_other rest))))))))))
  where
    fixed_other : {n : ℕ} → Fixed n ≡ Itself → ⊥
    fixed_other e = absurd cc

    two_other : ByTwo ≡ Itself → ⊥
    two_other e = absurd cc

    last_rule : ByOctet ≡ Itself → ⊥
    last_rule e = absurd cc

set_high : (domain : Domain) (i : ℕ) → rule_of domain i ≡ Itself → 128 ≤ i
set_high domain i e = leb-true 128 i (others_not domain i (leb 128 i) refl e)

-- an element may be written under its identifier

by_fits : (domain : Domain) (i : ℕ) (e : Element (List ℕ)) (tail : List ℕ) (r : Rule) → rule_of domain i ≡ r → Small tail
    → SpellsBy r i e tail → FitsBy (rule_of domain e.iei) e.iei e.octets
by_fits domain i e tail Itself q s m =
    let high = set_high domain i q in
    let place : 128 ≤ i / 16 * 16 = omega (arith, high) in
    let made : FitsBy Itself (i / 16 * 16) (i ∷ []) = (i, refl, refl, high) in
    subst (λ (x : Element (List ℕ)). FitsBy (rule_of domain x.iei) x.iei x.octets) (sym m.0)
    (subst (λ (x : Rule). FitsBy x (i / 16 * 16) (i ∷ [])) (sym (itself domain (i / 16 * 16) place)) made)
by_fits domain i e tail (Fixed n) q s m = subst (λ (x : Rule). FitsBy x e.iei e.octets) (sym (ap (rule_of domain) m.0 ∙ q)) m.2
by_fits domain i e tail ByOctet q s m =
    let whole : Small (length e.octets ∷ e.octets) = subst Small m.1 s in
    subst (λ (x : Rule). FitsBy x e.iei e.octets) (sym (ap (rule_of domain) m.0 ∙ q)) whole.0
by_fits domain i e tail ByTwo q s m =
    let whole : Small (m.1 ∷ m.2 ∷ e.octets) = subst Small m.3 s in
    let a = whole.0 in
    let b = whole.1.0 in
    let sum = m.4 in
    let small : length e.octets < 65536 = omega (arith, a, b, sum) in
    subst (λ (x : Rule). FitsBy x e.iei e.octets) (sym (ap (rule_of domain) m.0 ∙ q)) small

element_fits : (domain : Domain) (e : Element (List ℕ)) (os : List ℕ) → Small os → SpellsElement domain e os
    → FitsBy (rule_of domain e.iei) e.iei e.octets
element_fits domain e os s m =
    let whole : Small (m.0 ∷ m.1) = subst Small m.2 s in
    by_fits domain m.0 e m.1 (rule_of domain m.0) refl whole.1 m.3

chosen_fits : (domain : Domain) (i : ℕ) (e : Element (List ℕ)) (other : Option (List ℕ)) (b : Bool) → eqb e.iei i ≡ b
    → FitsBy (rule_of domain e.iei) e.iei e.octets → OptionalFits domain i other
    → OptionalFits domain i (cond b (Some e.octets) other)
chosen_fits domain i e other true q f g = subst (λ (n : ℕ). FitsBy (rule_of domain n) n e.octets) (eqb-true e.iei i q) f
chosen_fits domain i e other false q f g = g

first_fits : (domain : Domain) (es : List (Element (List ℕ))) (os : List ℕ) → Small os → AreElements domain es os → (i : ℕ)
    → OptionalFits domain i (first i es)
first_fits domain [] os s m i = tt
first_fits domain (e ∷ es) os s m i =
    let whole : Small (m.0 ++ m.1) = subst Small m.2 s in
    chosen_fits domain i e (first i es) (eqb e.iei i) refl (element_fits domain e m.0 (left m.0 m.1 whole) m.3)
    (first_fits domain es m.1 (right m.0 m.1 whole) m.4 i)

flag_fits : (domain : Domain) (i : ℕ) (b : Bool) → (leb 128 i && eqb (i % 16) 0) ≡ true
    → OptionalFits domain i (as_written (flag i) b)
flag_fits domain i false e = tt
flag_fits domain i true e =
    let t = both_true (leb 128 i) (eqb (i % 16) 0) e in
    let high = leb-true 128 i t.0 in
    let even = eqb-true _ _ t.1 in
    let made : FitsBy Itself i ((i + 1) ∷ []) = (i + 1, refl, omega (arith, even), omega (arith, high)) in
    subst (λ (x : Rule). FitsBy x i ((i + 1) ∷ [])) (sym (itself domain i high)) made

keep_fits : (domain : Domain) (k : Keep) (o : Option (List ℕ)) → is_sound k ≡ true → OptionalFits domain (iei_of k) o
    → OptionalFits domain (iei_of k) (as_written k (kept_from k o))
keep_fits domain (element i) o e f = f
keep_fits domain (flag i) o e f = flag_fits domain i (is_set o) e

kept_fit : (domain : Domain) (ks : List Keep) (es : List (Element (List ℕ))) (os : List ℕ) → are_distinct ks ≡ true → Small os
    → AreElements domain es os → KeptFit domain ks (firsts ks es)
kept_fit domain [] es os e s m = tt
kept_fit domain (k ∷ ks) es os e s m =
    let t = both_true (not (contains (iei_of k) ks) && is_sound k) (are_distinct ks) e in
    let u = both_true (not (contains (iei_of k) ks)) (is_sound k) t.0 in
    (keep_fits domain k (first (iei_of k) es) u.1 (first_fits domain es os s m (iei_of k)), kept_fit domain ks es os t.1 s m)

pub row_fits : (r : Row) (v : RowValue r) (os : List ℕ) → are_distinct r.kept ≡ true → Small os → SpellsRow r v os → RowFits r v
row_fits r v os e s m =
    let whole : Small (m.front ++ m.rest) = subst Small m.whole s in (
      parts_fit r.parts v.0 m.front (left m.front m.rest whole) m.mandatory,
      subst (λ (w : Kept r.kept). KeptFit r.domain r.kept w) (sym m.kept)
          (kept_fit r.domain r.kept m.found m.rest e (right m.front m.rest whole) m.optional),
    )
