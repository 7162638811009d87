-- The digits of an IMSI: what is read is spelled so, and what is spelled is read.
use Rattle.std.proofs.Common.{◌≡◌, ℕ, zero, suc, ◌+◌, ◌-◌, ◌*◌, ◌/◌, ◌%◌, ◌<◌, ◌&&◌, ◌||◌, Bool, true, false, cond, leb, ltb, eqb, List, [], ◌∷◌, ◌++◌, length, map, take, Option, Some, None, refl, sym, ap, subst, ◌∙◌, arith, slice_index, ◌⊎◌, inl, inr}
use Rattle.std.specs.List.{list_all}
use Rattle.std.proofs.lemmas.Bool.{eqb-true, eq-eqb, ltb-true, lt-ltb, leb-true, le-leb, ne_eqb, cases_lt}
use Rattle.std.proofs.lemmas.List.{get_or-take, length-take, length-append, length-map, take_all, take_more, get_or-append_right}
use Rattle.std.proofs.lemmas.List.{take_at as take_front}
use Rattle.nas_elements.specs.Digits.{are_digits, is_imsi, imsi_type, imsi_octets, imsi_checked, half_octets, imsi_of, is_digit, is_digit_text, filled, digits_of, imsi_text, imsi_of_text}
use Rattle.nas_elements.specs.Exact.{where_ok, both_true}

chosen : {A : Type 0} (b : Bool) (o : Option A) (y : A) → cond b o None ≡ Some y → (b ≡ true) × (o ≡ Some y)
chosen true o y e = (refl, e)
chosen false o y e = absurd cc

-- a list of 8 is its items
pub eight : (os : List ℕ) → length os ≡ 8 → os ≡ slice_index os 0 ∷ slice_index os 1 ∷ slice_index os 2 ∷ slice_index os 3
    ∷ slice_index os 4 ∷ slice_index os 5 ∷ slice_index os 6 ∷ slice_index os 7 ∷ []
eight ([]) e = absurd (omega (arith, e))
eight (v0 ∷ []) e = absurd (omega (arith, e))
eight (v0 ∷ v1 ∷ []) e = absurd (omega (arith, e))
eight (v0 ∷ v1 ∷ v2 ∷ []) e = absurd (omega (arith, e))
eight (v0 ∷ v1 ∷ v2 ∷ v3 ∷ []) e = absurd (omega (arith, e))
eight (v0 ∷ v1 ∷ v2 ∷ v3 ∷ v4 ∷ []) e = absurd (omega (arith, e))
eight (v0 ∷ v1 ∷ v2 ∷ v3 ∷ v4 ∷ v5 ∷ []) e = absurd (omega (arith, e))
eight (v0 ∷ v1 ∷ v2 ∷ v3 ∷ v4 ∷ v5 ∷ v6 ∷ []) e = absurd (omega (arith, e))
eight (v0 ∷ v1 ∷ v2 ∷ v3 ∷ v4 ∷ v5 ∷ v6 ∷ v7 ∷ []) e = refl
eight (v0 ∷ v1 ∷ v2 ∷ v3 ∷ v4 ∷ v5 ∷ v6 ∷ v7 ∷ more ∷ rest) e = absurd (omega (arith, e))

-- a list of 15 is its items
pub fifteen : (os : List ℕ) → length os ≡ 15 → os ≡ slice_index os 0 ∷ slice_index os 1 ∷ slice_index os 2 ∷ slice_index os 3
    ∷ slice_index os 4 ∷ slice_index os 5 ∷ slice_index os 6 ∷ slice_index os 7 ∷ slice_index os 8 ∷ slice_index os 9
    ∷ slice_index os 10 ∷ slice_index os 11 ∷ slice_index os 12 ∷ slice_index os 13 ∷ slice_index os 14 ∷ []
fifteen ([]) e = absurd (omega (arith, e))
fifteen (v0 ∷ []) e = absurd (omega (arith, e))
fifteen (v0 ∷ v1 ∷ []) e = absurd (omega (arith, e))
fifteen (v0 ∷ v1 ∷ v2 ∷ []) e = absurd (omega (arith, e))
fifteen (v0 ∷ v1 ∷ v2 ∷ v3 ∷ []) e = absurd (omega (arith, e))
fifteen (v0 ∷ v1 ∷ v2 ∷ v3 ∷ v4 ∷ []) e = absurd (omega (arith, e))
fifteen (v0 ∷ v1 ∷ v2 ∷ v3 ∷ v4 ∷ v5 ∷ []) e = absurd (omega (arith, e))
fifteen (v0 ∷ v1 ∷ v2 ∷ v3 ∷ v4 ∷ v5 ∷ v6 ∷ []) e = absurd (omega (arith, e))
fifteen (v0 ∷ v1 ∷ v2 ∷ v3 ∷ v4 ∷ v5 ∷ v6 ∷ v7 ∷ []) e = absurd (omega (arith, e))
fifteen (v0 ∷ v1 ∷ v2 ∷ v3 ∷ v4 ∷ v5 ∷ v6 ∷ v7 ∷ v8 ∷ []) e = absurd (omega (arith, e))
fifteen (v0 ∷ v1 ∷ v2 ∷ v3 ∷ v4 ∷ v5 ∷ v6 ∷ v7 ∷ v8 ∷ v9 ∷ []) e = absurd (omega (arith, e))
fifteen (v0 ∷ v1 ∷ v2 ∷ v3 ∷ v4 ∷ v5 ∷ v6 ∷ v7 ∷ v8 ∷ v9 ∷ v10 ∷ []) e = absurd (omega (arith, e))
fifteen (v0 ∷ v1 ∷ v2 ∷ v3 ∷ v4 ∷ v5 ∷ v6 ∷ v7 ∷ v8 ∷ v9 ∷ v10 ∷ v11 ∷ []) e = absurd (omega (arith, e))
fifteen (v0 ∷ v1 ∷ v2 ∷ v3 ∷ v4 ∷ v5 ∷ v6 ∷ v7 ∷ v8 ∷ v9 ∷ v10 ∷ v11 ∷ v12 ∷ []) e = absurd (omega (arith, e))
fifteen (v0 ∷ v1 ∷ v2 ∷ v3 ∷ v4 ∷ v5 ∷ v6 ∷ v7 ∷ v8 ∷ v9 ∷ v10 ∷ v11 ∷ v12 ∷ v13 ∷ []) e = absurd (omega (arith, e))
fifteen (v0 ∷ v1 ∷ v2 ∷ v3 ∷ v4 ∷ v5 ∷ v6 ∷ v7 ∷ v8 ∷ v9 ∷ v10 ∷ v11 ∷ v12 ∷ v13 ∷ v14 ∷ []) e = refl
fifteen (v0 ∷ v1 ∷ v2 ∷ v3 ∷ v4 ∷ v5 ∷ v6 ∷ v7 ∷ v8 ∷ v9 ∷ v10 ∷ v11 ∷ v12 ∷ v13 ∷ v14 ∷ more ∷ rest) e = absurd (omega (arith, e))

halves : (n : ℕ) → n / 16 * 16 + n % 16 ≡ n
halves n = omega arith

low_half : (u v : ℕ) → v < 16 → (u * 16 + v) % 16 ≡ v
low_half u v lt = omega (arith, lt)

high_half : (u v : ℕ) → v < 16 → (u * 16 + v) / 16 ≡ u
high_half u v lt = omega (arith, lt)

pub imsi_takes : (os ds : List ℕ) → imsi_of os ≡ Some ds → (os ≡ imsi_octets ds) × (is_imsi ds ≡ true)
unfolding imsi_of imsi_checked imsi_octets
imsi_takes os ds e =
    let len = chosen (eqb (length os) 8) (imsi_checked (half_octets os) (slice_index os 0 % 16)) ds e in
    let g =
    where_ok (is_imsi (half_octets os) && eqb (slice_index os 0 % 16) (imsi_type (half_octets os))) (half_octets os) ds len.1 in
    let t = both_true (is_imsi (half_octets os)) (eqb (slice_index os 0 % 16) (imsi_type (half_octets os))) g.0 in
    let kind : slice_index os 0 % 16 ≡ imsi_type (half_octets os) = eqb-true _ _ t.1 in
    let whole : os ≡ imsi_octets (half_octets os) = eight os (eqb-true _ _ len.0) ∙ sym (rw (← kind) (simp halves)) in
    subst (λ (x : List ℕ). (os ≡ imsi_octets x) × (is_imsi x ≡ true)) g.1 (whole, t.0)

and_true : (a b : Bool) → a ≡ true → b ≡ true → (a && b) ≡ true
and_true a b p q = rw (p, q) refl

digit : (d : ℕ) → ltb d 10 ≡ true → d < 16
digit d e = let l = ltb-true _ _ e in omega (arith, l)

last_digit : (d : ℕ) → (ltb d 10 || eqb d 15) ≡ true → d < 16
last_digit d e = last_cases d (ltb d 10) refl e
  where
    last_cases : (d : ℕ) (b : Bool) → ltb d 10 ≡ b → (b || eqb d 15) ≡ true → d < 16
    last_cases d true l e = digit d l
    last_cases d false l e = let q = eqb-true d 15 e in omega (arith, q)

type_small : (b : Bool) → cond b 1 9 < 16
type_small true = omega arith
type_small false = omega arith

again_explicit : (d0 d1 d2 d3 d4 d5 d6 d7 d8 d9 d10 d11 d12 d13 d14 : ℕ)
    → is_imsi (d0 ∷ d1 ∷ d2 ∷ d3 ∷ d4 ∷ d5 ∷ d6 ∷ d7 ∷ d8 ∷ d9 ∷ d10 ∷ d11 ∷ d12 ∷ d13 ∷ d14 ∷ []) ≡ true
    → imsi_of (imsi_octets (d0 ∷ d1 ∷ d2 ∷ d3 ∷ d4 ∷ d5 ∷ d6 ∷ d7 ∷ d8 ∷ d9 ∷ d10 ∷ d11 ∷ d12 ∷ d13 ∷ d14 ∷ []))
    ≡ Some (d0 ∷ d1 ∷ d2 ∷ d3 ∷ d4 ∷ d5 ∷ d6 ∷ d7 ∷ d8 ∷ d9 ∷ d10 ∷ d11 ∷ d12 ∷ d13 ∷ d14 ∷ [])
unfolding imsi_of imsi_checked imsi_octets is_imsi
again_explicit d0 d1 d2 d3 d4 d5 d6 d7 d8 d9 d10 d11 d12 d13 d14 e =
    let a = both_true _ _ e in
    let c0 = both_true _ _ a.0 in
    let l0 : d0 < 16 = digit d0 c0.0 in
    let c1 = both_true _ _ c0.1 in
    let l1 : d1 < 16 = digit d1 c1.0 in
    let c2 = both_true _ _ c1.1 in
    let l2 : d2 < 16 = digit d2 c2.0 in
    let c3 = both_true _ _ c2.1 in
    let l3 : d3 < 16 = digit d3 c3.0 in
    let c4 = both_true _ _ c3.1 in
    let l4 : d4 < 16 = digit d4 c4.0 in
    let c5 = both_true _ _ c4.1 in
    let l5 : d5 < 16 = digit d5 c5.0 in
    let c6 = both_true _ _ c5.1 in
    let l6 : d6 < 16 = digit d6 c6.0 in
    let c7 = both_true _ _ c6.1 in
    let l7 : d7 < 16 = digit d7 c7.0 in
    let c8 = both_true _ _ c7.1 in
    let l8 : d8 < 16 = digit d8 c8.0 in
    let c9 = both_true _ _ c8.1 in
    let l9 : d9 < 16 = digit d9 c9.0 in
    let c10 = both_true _ _ c9.1 in
    let l10 : d10 < 16 = digit d10 c10.0 in
    let c11 = both_true _ _ c10.1 in
    let l11 : d11 < 16 = digit d11 c11.0 in
    let c12 = both_true _ _ c11.1 in
    let l12 : d12 < 16 = digit d12 c12.0 in
    let c13 = both_true _ _ c12.1 in
    let l13 : d13 < 16 = digit d13 c13.0 in
    let l14 : d14 < 16 = last_digit d14 a.1 in
    let k = type_small (eqb d14 15) in
    let test : (is_imsi (d0 ∷ d1 ∷ d2 ∷ d3 ∷ d4 ∷ d5 ∷ d6 ∷ d7 ∷ d8 ∷ d9 ∷ d10 ∷ d11 ∷ d12 ∷ d13 ∷ d14 ∷ [])
    && eqb (imsi_type (d0 ∷ d1 ∷ d2 ∷ d3 ∷ d4 ∷ d5 ∷ d6 ∷ d7 ∷ d8 ∷ d9 ∷ d10 ∷ d11 ∷ d12 ∷ d13 ∷ d14 ∷ []))
    (imsi_type (d0 ∷ d1 ∷ d2 ∷ d3 ∷ d4 ∷ d5 ∷ d6 ∷ d7 ∷ d8 ∷ d9 ∷ d10 ∷ d11 ∷ d12 ∷ d13 ∷ d14 ∷ []))) ≡ true =
    and_true _ _ e (eq-eqb _ _ refl) in
    rw (
      high_half d0 (imsi_type (d0 ∷ d1 ∷ d2 ∷ d3 ∷ d4 ∷ d5 ∷ d6 ∷ d7 ∷ d8 ∷ d9 ∷ d10 ∷ d11 ∷ d12 ∷ d13 ∷ d14 ∷ [])) k,
      low_half d0 (imsi_type (d0 ∷ d1 ∷ d2 ∷ d3 ∷ d4 ∷ d5 ∷ d6 ∷ d7 ∷ d8 ∷ d9 ∷ d10 ∷ d11 ∷ d12 ∷ d13 ∷ d14 ∷ [])) k,
      low_half d2 d1 l1,
      high_half d2 d1 l1,
      low_half d4 d3 l3,
      high_half d4 d3 l3,
      low_half d6 d5 l5,
      high_half d6 d5 l5,
      low_half d8 d7 l7,
      high_half d8 d7 l7,
      low_half d10 d9 l9,
      high_half d10 d9 l9,
      low_half d12 d11 l11,
      high_half d12 d11 l11,
      low_half d14 d13 l13,
      high_half d14 d13 l13,
      test,
    ) refl

is_imsi_length : (ds : List ℕ) → is_imsi ds ≡ true → length ds ≡ 15
unfolding is_imsi
is_imsi_length ds e =
    eqb-true _ _
    (both_true (eqb (length ds) 15) (are_digits (take 14 ds) && (ltb (slice_index ds 14) 10 || eqb (slice_index ds 14) 15)) e).0

pub imsi_again : (os ds : List ℕ) → (os ≡ imsi_octets ds) × (is_imsi ds ≡ true) → imsi_of os ≡ Some ds
imsi_again os ds m =
    let whole : ds ≡ slice_index ds 0 ∷ slice_index ds 1 ∷ slice_index ds 2 ∷ slice_index ds 3 ∷ slice_index ds 4 ∷ slice_index ds 5
    ∷ slice_index ds 6 ∷ slice_index ds 7 ∷ slice_index ds 8 ∷ slice_index ds 9 ∷ slice_index ds 10 ∷ slice_index ds 11
    ∷ slice_index ds 12 ∷ slice_index ds 13 ∷ slice_index ds 14 ∷ [] = fifteen ds (is_imsi_length ds m.1) in
    let made =
    again_explicit (slice_index ds 0) (slice_index ds 1) (slice_index ds 2) (slice_index ds 3) (slice_index ds 4) (slice_index ds 5)
    (slice_index ds 6) (slice_index ds 7) (slice_index ds 8) (slice_index ds 9) (slice_index ds 10) (slice_index ds 11)
    (slice_index ds 12) (slice_index ds 13) (slice_index ds 14) (subst (λ (x : List ℕ). is_imsi x ≡ true) whole m.1) in
    m' os ds m.0 (subst (λ (x : List ℕ). imsi_of (imsi_octets x) ≡ Some x) (sym whole) made)
  where
    m' : (os ds : List ℕ) → os ≡ imsi_octets ds → imsi_of (imsi_octets ds) ≡ Some ds → imsi_of os ≡ Some ds
    m' os ds p q = rw p q

pub digits_small : (ds : List ℕ) → are_digits ds ≡ true → (i : ℕ) → i < length ds → slice_index ds i < 16
digits_small [] e i lt = absurd (omega (arith, lt))
digits_small (d ∷ ds) e zero lt = digit d (both_true (ltb d 10) (are_digits ds) e).0
digits_small (d ∷ ds) e (suc i) lt = digits_small ds (both_true (ltb d 10) (are_digits ds) e).1 i (omega (arith, lt))

-- each half octet is one
pub small : (ds : List ℕ) → is_imsi ds ≡ true → (i : ℕ) → i < 15 → slice_index ds i < 16
unfolding is_imsi
small ds e i lt =
    let a =
    both_true (eqb (length ds) 15) (are_digits (take 14 ds) && (ltb (slice_index ds 14) 10 || eqb (slice_index ds 14) 15)) e in
    let b = both_true (are_digits (take 14 ds)) (ltb (slice_index ds 14) 10 || eqb (slice_index ds 14) 15) a.1 in
    let len : length ds ≡ 15 = eqb-true _ _ a.0 in
    elim (cases_lt i 14) [
      | inl front ↦ subst (λ (n : ℕ). n < 16) (get_or-take 14 ds i 0 front)
          (digits_small (take 14 ds) b.0 i (omega (arith, len, length-take 14 ds, front)))
      | inr back ↦ let here : i ≡ 14 =
          omega (arith, lt, back) in subst (λ (n : ℕ). slice_index ds n < 16) (sym here) (last_digit (slice_index ds 14) b.1)
    ]

-- ---- text

digit_of_text : (b : ℕ) → is_digit b ≡ true → ltb (b - 48) 10 ≡ true
digit_of_text b e =
    let t = both_true (leb 48 b) (leb b 57) e in
    let low = leb-true 48 b t.0 in
    let high = leb-true b 57 t.1 in
    lt-ltb (b - 48) 10 (omega (arith, low, high))

abbrev values : List ℕ → List ℕ
values bs = map (λ (b : ℕ). b - 48) bs

values_are_digits : (bs : List ℕ) → list_all is_digit bs ≡ true → are_digits (values bs) ≡ true
values_are_digits [] e = refl
values_are_digits (b ∷ bs) e =
    let t = both_true (is_digit b) (list_all is_digit bs) e in
    and_true _ _ (digit_of_text b t.0) (values_are_digits bs t.1)

either_true : (a b : Bool) → (a || b) ≡ true → (a ≡ true) ⊎ (b ≡ true)
either_true true b e = inl refl
either_true false b e = inr e

digit_at : (ds : List ℕ) → are_digits ds ≡ true → (i : ℕ) → i < length ds → ltb (slice_index ds i) 10 ≡ true
digit_at [] e i lt = absurd (omega (arith, lt))
digit_at (d ∷ ds) e zero lt = (both_true (ltb d 10) (are_digits ds) e).0
digit_at (d ∷ ds) e (suc i) lt = digit_at ds (both_true (ltb d 10) (are_digits ds) e).1 i (omega (arith, lt))

digits_front : (n : ℕ) (ds : List ℕ) → are_digits ds ≡ true → are_digits (take n ds) ≡ true
digits_front zero ds e = refl
digits_front (suc n) [] e = refl
digits_front (suc n) (d ∷ ds) e =
    let t = both_true (ltb d 10) (are_digits ds) e in
    and_true _ _ t.0 (digits_front n ds t.1)

or_left : (a b : Bool) → a ≡ true → (a || b) ≡ true
or_left a b e = rw e refl

or_right : (a b : Bool) → b ≡ true → (a || b) ≡ true
or_right true b e = refl
or_right false b e = e

-- fourteen digits and the filler
filled_fourteen : (ds : List ℕ) → length ds ≡ 14 → are_digits ds ≡ true → is_imsi (filled ds) ≡ true
unfolding is_imsi
filled_fourteen ds len e =
    let whole : filled ds ≡ ds ++ 15 ∷ [] = take_all 15 (ds ++ 15 ∷ []) (omega (arith, len, length-append ds (15 ∷ []))) in
    let long : length (ds ++ 15 ∷ []) ≡ 15 = omega (arith, len, length-append ds (15 ∷ [])) in
    let front : take 14 (ds ++ 15 ∷ []) ≡ ds = take_front ds (15 ∷ []) 14 len in
    let last : slice_index (ds ++ 15 ∷ []) 14 ≡ 15 = get_or-append_right ds (15 ∷ []) 14 14 0 len (omega arith) in
    let made : is_imsi (ds ++ 15 ∷ []) ≡ true =
    and_true _ _ (eq-eqb _ _ long)
    (and_true _ _ (rw front e) (or_right (ltb (slice_index (ds ++ 15 ∷ []) 14) 10) _ (eq-eqb _ _ last))) in
    subst (λ (x : List ℕ). is_imsi x ≡ true) (sym whole) made

filled_fifteen : (ds : List ℕ) → length ds ≡ 15 → are_digits ds ≡ true → is_imsi (filled ds) ≡ true
unfolding is_imsi
filled_fifteen ds len e =
    let whole : filled ds ≡ ds = take_front ds (15 ∷ []) 15 len in
    let made : is_imsi ds ≡ true =
    and_true _ _ (eq-eqb _ _ len)
    (and_true _ _ (digits_front 14 ds e) (or_left _ (eqb (slice_index ds 14) 15) (digit_at ds e 14 (omega (arith, len))))) in
    subst (λ (x : List ℕ). is_imsi x ≡ true) (sym whole) made

pub filled_is_imsi : (bs : List ℕ) → is_digit_text bs ≡ true → is_imsi (filled (map (λ (b : ℕ). b - 48) bs)) ≡ true
filled_is_imsi bs e =
    let t = both_true (eqb (length bs) 14 || eqb (length bs) 15) (list_all is_digit bs) e in
    let all = values_are_digits bs t.1 in
    elim (either_true (eqb (length bs) 14) (eqb (length bs) 15) t.0) [
      | inl p ↦ filled_fourteen (values bs) (length-map bs (λ (b : ℕ). b - 48) ∙ eqb-true _ _ p) all
      | inr p ↦ filled_fifteen (values bs) (length-map bs (λ (b : ℕ). b - 48) ∙ eqb-true _ _ p) all
    ]

-- the digits of an IMSI are digits

imsi_front : (ds : List ℕ) → is_imsi ds ≡ true → are_digits (take 14 ds) ≡ true
unfolding is_imsi
imsi_front ds e = (both_true (are_digits (take 14 ds)) (ltb (slice_index ds 14) 10 || eqb (slice_index ds 14) 15)
    (both_true (eqb (length ds) 15) (are_digits (take 14 ds) && (ltb (slice_index ds 14) 10 || eqb (slice_index ds 14) 15)) e).1).0

imsi_last : (ds : List ℕ) → is_imsi ds ≡ true → (slice_index ds 14 ≡ 15 → ⊥) → ltb (slice_index ds 14) 10 ≡ true
unfolding is_imsi
imsi_last ds e other =
    let a =
    (both_true (eqb (length ds) 15) (are_digits (take 14 ds) && (ltb (slice_index ds 14) 10 || eqb (slice_index ds 14) 15)) e).1 in
    let b = (both_true (are_digits (take 14 ds)) (ltb (slice_index ds 14) 10 || eqb (slice_index ds 14) 15) a).1 in
    elim (either_true (ltb (slice_index ds 14) 10) (eqb (slice_index ds 14) 15) b) [
      | inl p ↦ p
      | inr p ↦ absurd
          (other (eqb-true _ _ p))
    ]

pub front_digits : (ds : List ℕ) → is_imsi ds ≡ true → are_digits (take 14 ds) ≡ true
front_digits ds e = imsi_front ds e

pub all_digits : (ds : List ℕ) → is_imsi ds ≡ true → (slice_index ds 14 ≡ 15 → ⊥) → are_digits ds ≡ true
all_digits ds e other =
    let whole : take 14 ds ++ slice_index ds 14 ∷ [] ≡ ds =
    sym (take_more ds 14 0 (let l = is_imsi_length ds e in omega (arith, l)))
    ∙ take_all 15 ds (let l = is_imsi_length ds e in omega (arith, l)) in
    subst (λ (x : List ℕ). are_digits x ≡ true) whole
    (digits_joined (take 14 ds) (slice_index ds 14) (imsi_front ds e) (imsi_last ds e other))
  where
    digits_joined : (xs : List ℕ) (d : ℕ) → are_digits xs ≡ true → ltb d 10 ≡ true → are_digits (xs ++ d ∷ []) ≡ true
    digits_joined [] d e l = and_true _ _ l refl
    digits_joined (x ∷ xs) d e l = let t = both_true (ltb x 10) (are_digits xs) e in and_true _ _ t.0 (digits_joined xs d t.1 l)

-- text and back

back_one : (b : ℕ) → is_digit b ≡ true → 48 + (b - 48) ≡ b
back_one b e = let low = leb-true 48 b (both_true (leb 48 b) (leb b 57) e).0 in omega (arith, low)

abbrev texts : List ℕ → List ℕ
texts ds = map (λ (d : ℕ). 48 + d) ds

back : (bs : List ℕ) → list_all is_digit bs ≡ true → texts (values bs) ≡ bs
back [] e = refl
back (b ∷ bs) e =
    let t = both_true (is_digit b) (list_all is_digit bs) e in
    rw (back_one b t.0, back bs t.1) refl

digits_fourteen : (ds : List ℕ) → length ds ≡ 14 → digits_of (filled ds) ≡ ds
digits_fourteen ds len =
    let whole : filled ds ≡ ds ++ 15 ∷ [] = take_all 15 (ds ++ 15 ∷ []) (omega (arith, len, length-append ds (15 ∷ []))) in
    let last : slice_index (ds ++ 15 ∷ []) 14 ≡ 15 = get_or-append_right ds (15 ∷ []) 14 14 0 len (omega arith) in
    let made : digits_of (ds ++ 15 ∷ []) ≡ ds = rw (eq-eqb _ _ last) (take_front ds (15 ∷ []) 14 len) in
    subst (λ (x : List ℕ). digits_of x ≡ ds) (sym whole) made

small_digit : (d : ℕ) → ltb d 10 ≡ true → eqb d 15 ≡ false
small_digit d e = let l = ltb-true d 10 e in ne_eqb d 15 (λ q. absurd (omega (arith, l, q)))

digits_fifteen : (ds : List ℕ) → length ds ≡ 15 → are_digits ds ≡ true → digits_of (filled ds) ≡ ds
digits_fifteen ds len e =
    let whole : filled ds ≡ ds = take_front ds (15 ∷ []) 15 len in
    let made : digits_of ds ≡ ds = rw (small_digit (slice_index ds 14) (digit_at ds e 14 (omega (arith, len)))) refl in
    subst (λ (x : List ℕ). digits_of x ≡ ds) (sym whole) made

digits_back : (bs : List ℕ) → is_digit_text bs ≡ true → texts (digits_of (filled (values bs))) ≡ bs
digits_back bs e =
    let t = both_true (eqb (length bs) 14 || eqb (length bs) 15) (list_all is_digit bs) e in
    elim (either_true (eqb (length bs) 14) (eqb (length bs) 15) t.0) [
      | inl p ↦ ap (map (λ (d : ℕ). 48 + d)) (digits_fourteen (values bs) (length-map bs (λ (b : ℕ). b - 48) ∙ eqb-true _ _ p))
          ∙ back bs t.1
      | inr p ↦ ap (map (λ (d : ℕ). 48 + d))
          (digits_fifteen (values bs) (length-map bs (λ (b : ℕ). b - 48) ∙ eqb-true _ _ p) (values_are_digits bs t.1)) ∙ back bs t.1
    ]

pub text_again : (bs ds : List ℕ) → imsi_of_text bs ≡ Some ds → imsi_text ds ≡ bs
unfolding imsi_of_text imsi_text
text_again bs ds e =
    let g = where_ok (is_digit_text bs) (filled (values bs)) ds e in
    subst (λ (x : List ℕ). texts (digits_of x) ≡ bs) g.1 (digits_back bs g.0)

-- the digits of an IMSI, and their text

forth_one : (d : ℕ) → ltb d 10 ≡ true → is_digit (48 + d) ≡ true
forth_one d e = let l = ltb-true d 10 e in and_true _ _ (le-leb 48 (48 + d) (omega arith)) (le-leb (48 + d) 57 (omega (arith, l)))

texts_are_digits : (ds : List ℕ) → are_digits ds ≡ true → list_all is_digit (texts ds) ≡ true
texts_are_digits [] e = refl
texts_are_digits (d ∷ ds) e =
    let t = both_true (ltb d 10) (are_digits ds) e in
    and_true _ _ (forth_one d t.0) (texts_are_digits ds t.1)

forth : (ds : List ℕ) → values (texts ds) ≡ ds
forth [] = refl
forth (d ∷ ds) = let one : 48 + d - 48 ≡ d = omega arith in rw (one, forth ds) refl

made_again : (ds xs : List ℕ) → (length xs ≡ 14) ⊎ (length xs ≡ 15) → are_digits xs ≡ true → filled xs ≡ ds
    → imsi_of_text (texts xs) ≡ Some ds
unfolding imsi_of_text
made_again ds xs n e whole =
    let test : is_digit_text (texts xs) ≡ true = and_true _ _ (elim n [
      | inl p ↦ or_left _ (eqb (length (texts xs)) 15) (eq-eqb _ _ (length-map xs (λ (d : ℕ). 48 + d) ∙ p))
      | inr p ↦ or_right (eqb (length (texts xs)) 14) _ (eq-eqb _ _ (length-map xs (λ (d : ℕ). 48 + d) ∙ p))
    ]) (texts_are_digits xs e) in
    rw (test, forth xs, whole) refl

filled_again : (ds : List ℕ) → length ds ≡ 15 → slice_index ds 14 ≡ 15 → filled (take 14 ds) ≡ ds
filled_again ds len last =
    let short : length (take 14 ds) ≡ 14 = omega (arith, length-take 14 ds, len) in
    let whole : filled (take 14 ds) ≡ take 14 ds ++ 15 ∷ [] =
    take_all 15 (take 14 ds ++ 15 ∷ []) (omega (arith, short, length-append (take 14 ds) (15 ∷ []))) in
    whole ∙ ap (λ (n : ℕ). take 14 ds ++ n ∷ []) (sym last) ∙ sym (take_more ds 14 0 (omega (arith, len)))
    ∙ take_all 15 ds (omega (arith, len))

imsi_by : (ds : List ℕ) (b : Bool) → eqb (slice_index ds 14) 15 ≡ b → is_imsi ds ≡ true
    → imsi_of_text (texts (cond b (take 14 ds) ds)) ≡ Some ds
imsi_by ds true q e =
    let len = is_imsi_length ds e in
    made_again ds (take 14 ds) (inl (omega (arith, length-take 14 ds, len))) (front_digits ds e)
    (filled_again ds len (eqb-true _ _ q))
imsi_by ds false q e =
    let len = is_imsi_length ds e in
    made_again ds ds (inr len)
    (all_digits ds e (λ p. absurd (let same = eq-eqb _ _ p in let never : true ≡ false = sym same ∙ q in cc)))
    (take_front ds (15 ∷ []) 15 len)

pub imsi_text_again : (ds : List ℕ) → is_imsi ds ≡ true → imsi_of_text (imsi_text ds) ≡ Some ds
unfolding imsi_text
imsi_text_again ds e = imsi_by ds (eqb (slice_index ds 14) 15) refl e
