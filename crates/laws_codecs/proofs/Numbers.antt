-- Whole numbers (X.691 clause 11.5).
use Rattle.std.proofs.Common.{◌≡◌, ℕ, ◌+◌, ◌-◌, ◌*◌, ◌^◌, ◌<◌, ◌≤◌, Bool, true, false, cond, leb, ltb, eqb, List, length, take, Result, Ok, Err, refl, sym, ap, subst, ◌⊎◌, inl, inr, arith}
use Rattle.std.proofs.lemmas.Bool.{cases_lt, leb-true, leb-false, eqb-true, eq-eqb}
use Rattle.std.proofs.lemmas.List.{length-take-le}
use Rattle.std.proofs.Math.Pow.{pow_mono}
use Rattle.per_streams.specs.declared.fault.PerFault.{PerFault}
use Rattle.per_streams.specs.declared.fault.PerFault.TheVariants.{Range, NotFewest}
use Rattle.per_streams.specs.Bits.{Place, ◌>>=◌, value, take_at, align_at}
use Rattle.per_streams.specs.BitLaws.{value_below}
use Rattle.per_streams.specs.OctetLaws.{IsPad, exact_align}
use Rattle.per_streams.specs.Numbers.{width_of, octets_for}
use Rattle.per_streams.specs.NumberLaws.{octets-fit}
use Rattle.per_streams.specs.Reading.{small_at, aligned_small_at, large_at, offset_at, number_at}
use Rattle.per_bits.specs.BaseLaws.{IsSmall, exact_small}
use Rattle.per_bits.specs.LargeLaws.{octets-some, octets-most, width-fits}
use Rattle.laws_codecs.specs.Components.{padding_bits, number_bits, number_octets, fault_number}
use Rattle.laws_codecs.specs.PerFaults.{AlignedNumber, Alone, InOrder, LargeNumber, NumberComponents, OffsetComponents, Whether}
use Rattle.laws_codecs.proofs.Outcomes.{good}
use Rattle.laws_codecs.proofs.Unspelled.{IsMore, more_than_fewest, no_more}
use Rattle.laws_codecs.proofs.Telling.{Tells, tells_bind, tells_map, tells_whether}
use Rattle.laws_codecs.proofs.Bits.{tells_padding}
use Rattle.laws_codecs.proofs.Judging.{HasRoom, Judges, judges_lowest, judges_one, judges_taken, left_at, tells_alone, verdict_unless}

-- ---- in N bits

above : (v last : ℕ) → leb v last ≡ false → last < v
above v last e = leb-false v last e

not_above : (v last : ℕ) → leb v last ≡ true → last < v → ⊥
not_above v last e lt = let le = leb-true v last e in absurd (omega (arith, le, lt))

pub tells_small : (last n : ℕ) (s : Place) → Tells (Alone (number_bits last n) s) (small_at last n s)
unfolding small_at
tells_small last n s =
    let k = number_bits last n in
    let g : List Bool × Place → Result (ℕ × Place) PerFault =
    λ x. cond (leb (value x.0) last) (Ok (value x.0, x.1)) (Err Range) in
    let v = value (take n s.rest) in
    tells_alone k s (take_at n s >>= g)
    (judges_taken k s n g refl
    (λ room. judges_one k s (g (take n s.rest, left_at n s)) Range (last < v) room (λ fault b. b) (λ c. (refl, c))
    (verdict_unless (leb v last) Range (last < v) (v, left_at n s) (above v last) (not_above v last))))

tells_aligned : (last n : ℕ) (s : Place) → Tells (AlignedNumber last n s) (aligned_small_at last n s)
tells_aligned last n s =
    tells_bind IsPad (Alone padding_bits) (λ u. Alone (number_bits last n)) align_at (λ u t. small_at last n t) s exact_align
    (tells_padding s) (λ u t k. tells_small last n t)

-- ---- in the fewest octets

is_more : (v n : ℕ) → 1 ≤ n → n ≤ 8 → v < 2 ^ (8 * n) → eqb (octets_for v) n ≡ false → IsMore n v
is_more v n some most holds e = by (cases_lt (octets_for v) n)
  where
    by : (octets_for v < n) ⊎ (n ≤ octets_for v) → IsMore n v
    by (inl fewer) =
        let one = octets-some v in
        let wide = pow_mono {i = 8 * n} {j = 64} (omega (arith, most)) in
        let fits = octets-fit v (omega (arith, holds, wide)) in
        let under = pow_mono {i = 8 * octets_for v} {j = 8 * (n - 1)} (omega (arith, fewer)) in
        (omega (arith, fewer, one), omega (arith, fits, under))
    by (inr enough) =
        let least = no_more v n some (cases_lt n (octets_for v)) holds in
        let same : octets_for v ≡ n = omega (arith, least, enough) in
        let k = eq-eqb (octets_for v) n same in
        absurd (cc (e, k))

not_more : (v n : ℕ) → eqb (octets_for v) n ≡ true → IsMore n v → ⊥
not_more v n e m = more_than_fewest v n m (eqb-true (octets_for v) n e)

taken_below : (n : ℕ) (bs : List Bool) → n ≤ length bs → value (take n bs) < 2 ^ n
taken_below n bs room = subst (λ k. value (take n bs) < 2 ^ k) (length-take-le n bs room) (value_below (take n bs))

abbrev octets_read : ℕ → ℕ → List Bool × Place → Result (ℕ × Place) PerFault
octets_read last n x =
    cond (leb (value x.0) last) (cond (eqb (octets_for (value x.0)) n) (Ok (value x.0, x.1)) (Err NotFewest)) (Err Range)

abbrev Breaks : ℕ → ℕ → ℕ → PerFault → Type 0
Breaks last n v fault = ((fault ≡ Range) × (last < v)) ⊎ ((fault ≡ NotFewest) × (1 < n) × (v < 2 ^ (8 * (n - 1))))

not_range : (last n v : ℕ) → (last < v → ⊥) → (fault : PerFault) → Breaks last n v fault → (fault ≡ NotFewest) × IsMore n v
not_range last n v none fault (inl m) = absurd (none m.1)
not_range last n v none fault (inr m) = (m.0, (m.1, m.2))

lowest : (last n v : ℕ) (fault : PerFault) → Breaks last n v fault → 3 ≤ fault_number fault
lowest last n v fault (inl m) = let e = ap fault_number m.0 in omega (arith, e)
lowest last n v fault (inr m) = let e = ap fault_number m.0 in omega (arith, e)

range_first : (last n v : ℕ) (fault : PerFault) → Breaks last n v fault → fault_number fault ≤ 3 → fault ≡ Range
range_first last n v fault (inl m) le = m.0
range_first last n v fault (inr m) le = absurd (let e = ap fault_number m.0 in omega (arith, e, le))

octets_by : (last n : ℕ) (s : Place) → 1 ≤ n → n ≤ 8 → HasRoom (number_octets last n) s → (v : ℕ)
    → v ≡ value (take (8 * n) s.rest) → (b : Bool) → leb v last ≡ b
    → Judges (number_octets last n) s
    (cond b (cond (eqb (octets_for v) n) (good {A = ℕ × Place} (v, left_at (8 * n) s)) (Err NotFewest)) (Err Range))
octets_by last n s some most room v is true e =
    let k = number_octets last n in
    let to : (fault : PerFault) → Breaks last n v fault → (fault ≡ NotFewest) × IsMore n v =
    not_range last n v (not_above v last e) in
    let below : v < 2 ^ (8 * n) = subst (λ j. j < 2 ^ (8 * n)) (sym is) (taken_below (8 * n) s.rest room) in
    judges_one k s _ NotFewest (IsMore n v) room
    (λ fault b. to fault (subst (λ j. Breaks last n j fault) (sym is) b))
    (λ c. subst (λ j. Breaks last n j NotFewest) is (inr (refl, c.0, c.1)))
    (verdict_unless (eqb (octets_for v) n) NotFewest (IsMore n v) (v, left_at (8 * n) s)
    (is_more v n some most below) (not_more v n))
octets_by last n s some most room v is false e =
    let k = number_octets last n in
    let w = value (take (8 * n) s.rest) in
    let over : last < w = subst (λ j. last < j) is (above v last e) in
    judges_lowest k s _ Range room (inl (refl, over)) (λ fault b. lowest last n w fault b)
    (λ fault b le. range_first last n w fault b le)
    refl

pub tells_number_octets : (last n : ℕ) (s : Place) → 1 ≤ n → n ≤ 8
    → Tells (Alone (number_octets last n) s) (take_at (8 * n) s >>= octets_read last n)
tells_number_octets last n s some most =
    let k = number_octets last n in
    let v = value (take (8 * n) s.rest) in
    tells_alone k s (take_at (8 * n) s >>= octets_read last n)
    (judges_taken k s (8 * n) (octets_read last n) refl
    (λ room. octets_by last n s some most room v refl (leb v last) refl))

-- how many octets, padding, octets
pub tells_large : (last : ℕ) (s : Place) → Tells (LargeNumber last s) (large_at last s)
unfolding large_at
tells_large last s =
    let most = octets_for last - 1 in
    let eight = octets-most last in
    let w = width_of most in
    tells_bind (IsSmall most w) (Alone (number_bits most w))
    (λ n. InOrder IsPad (Alone padding_bits) (λ u. Alone (number_octets last (n + 1)))) (small_at most w)
    (λ n t. align_at t >>= λ a. take_at (8 * (n + 1)) a.1 >>= octets_read last (n + 1)) s
    (exact_small most w (width-fits most (omega (arith, eight)))) (tells_small most w s)
    (λ n t k. let fewer = k.spelled.0 in
    tells_bind IsPad (Alone padding_bits) (λ u. Alone (number_octets last (n + 1))) align_at
    (λ u t. take_at (8 * (n + 1)) t >>= octets_read last (n + 1)) t exact_align (tells_padding t)
    (λ u t j. tells_number_octets last (n + 1) t (omega arith) (omega (arith, fewer, eight))))

-- ---- a number of a range

pub tells_offset : (last : ℕ) (s : Place) → Tells (OffsetComponents last s) (offset_at last s)
unfolding offset_at
tells_offset last s =
    tells_whether (ltb last 255) (Alone (number_bits last (width_of last)))
    (Whether (ltb last 256) (AlignedNumber last 8) (Whether (ltb last 65536) (AlignedNumber last 16) (LargeNumber last)))
    (small_at last (width_of last) s)
    (cond (ltb last 256) (aligned_small_at last 8 s) (cond (ltb last 65536) (aligned_small_at last 16 s) (large_at last s))) s
    (λ e. tells_small last (width_of last) s)
    (λ e. tells_whether (ltb last 256) (AlignedNumber last 8) (Whether (ltb last 65536) (AlignedNumber last 16) (LargeNumber last))
    (aligned_small_at last 8 s) (cond (ltb last 65536) (aligned_small_at last 16 s) (large_at last s)) s
    (λ e. tells_aligned last 8 s)
    (λ e. tells_whether (ltb last 65536) (AlignedNumber last 16) (LargeNumber last) (aligned_small_at last 16 s) (large_at last s) s
    (λ e. tells_aligned last 16 s) (λ e. tells_large last s)))

pub tells_number : (lo hi : ℕ) (s : Place) → Tells (NumberComponents lo hi s) (number_at lo hi s)
unfolding number_at
tells_number lo hi s =
    tells_map (NumberComponents lo hi s) (offset_at (hi - lo) s) (λ x. (lo + x.0, x.1)) (tells_offset (hi - lo) s)
