-- Numbers of several octets.
use Rattle.std.proofs.Common.{◌≡◌, ℕ, ◌+◌, ◌-◌, ◌*◌, ◌^◌, ◌<◌, ◌≤◌, Bool, true, false, cond, refl, sym, ap, subst, ◌∙◌, arith, List, [], ◌++◌, length, leb, eqb, Ok, Err}
use Rattle.std.proofs.lemmas.Grind.{common_steps}
use Rattle.std.proofs.lemmas.Bool.{leb-true, le-leb, eqb-true, eq-eqb}
use Rattle.std.proofs.lemmas.List.{append-nil}
use Rattle.std.proofs.Math.Pow.{pow_mono}
use Rattle.per_streams.specs.declared.fault.PerFault.TheVariants.{Range, NotFewest}
use Rattle.per_streams.specs.Bits.{value, bits, pad, ◌>>=◌, take_at, align_at}
use Rattle.per_streams.specs.Numbers.{octets_for, width_of}
use Rattle.per_streams.specs.NumberLaws.{octets-fit, octets-mono}
use Rattle.per_streams.specs.Reading.{small_at, large_at}
use Rattle.per_streams.specs.BitLaws.{value_below, value-bits, bits-value, length-bits}
use Rattle.per_streams.specs.Exact.{Exact, IsBits, exact_take, Bind, exact_bind, Nothing, exact_ok, Never, exact_err, exact_same, Cond, exact_cond}
use Rattle.per_streams.specs.OctetLaws.{IsPad, exact_align}
use Rattle.per_bits.specs.BaseLaws.{IsSmall, exact_small}

pub octets-some : (n : ℕ) → 1 ≤ octets_for n
unfolding octets_for
octets-some n = grind (arith, common_steps)

pub octets-most : (n : ℕ) → octets_for n ≤ 8
unfolding octets_for
octets-most n = grind (arith, common_steps)

pub width-fits : (n : ℕ) → n < 255 → n < 2 ^ width_of n
unfolding width_of
width-fits n lt = grind (arith, common_steps, lt)

abbrev pub large_bits : ℕ → ℕ → ℕ → List Bool
large_bits span n at = let count = bits (width_of (octets_for span - 1)) (octets_for n - 1) in
    count ++ (pad (at + length count) ++ bits (8 * octets_for n) n)

abbrev pub IsLarge : ℕ → ℕ → ℕ → List Bool → Type 0
IsLarge span n at bs = (n ≤ span) × (n < 2 ^ 64) × (bs ≡ large_bits span n at)

abbrev Last : ℕ → ℕ → List Bool → ℕ → ℕ → List Bool → Type 0
Last span c bs = Cond (leb (value bs) span) (Cond (eqb (octets_for (value bs)) (c + 1)) (Nothing (value bs)) Never) Never

abbrev LargeStep : ℕ → ℕ → ℕ → List Bool → Type 0
LargeStep span =
    Bind (IsSmall (octets_for span - 1) (width_of (octets_for span - 1)))
    (λ c. Bind IsPad (λ u. Bind (IsBits (8 * (c + 1))) (Last span c)))

last_ok : (a b : Bool) (v n at : ℕ) (ys : List Bool) → Cond a (Cond b (Nothing v) Never) Never n at ys
    → (a ≡ true) × (b ≡ true) × (n ≡ v) × (ys ≡ [])
last_ok true true v n at ys m = (refl, refl, m.0, m.1)
last_ok true false v n at ys m = absurd m
last_ok false b v n at ys m = absurd m

ok_last : (a b : Bool) (v at : ℕ) → a ≡ true → b ≡ true → Cond a (Cond b (Nothing v) Never) Never v at []
ok_last true true v at e f = (refl, refl)
ok_last true false v at e f = absurd cc
ok_last false b v at e f = absurd cc

large_to : (span n at : ℕ) (bs : List Bool) → LargeStep span n at bs → IsLarge span n at bs
large_to span n at bs m =
    let c = m.0 in
    let inner = m.5 in
    let core = inner.5 in
    let k = last_ok (leb (value core.0) span) (eqb (octets_for (value core.0)) (c + 1)) (value core.0) n _ core.2 core.5 in
    let fewest : octets_for n ≡ c + 1 = ap octets_for k.2 ∙ eqb-true _ _ k.1 in
    let within : n ≤ span = subst (λ j. j ≤ span) (sym k.2) (leb-true _ _ k.0) in
    let most = octets-most n in
    let wide : n < 2 ^ (8 * (c + 1)) =
    subst (λ j. j < 2 ^ (8 * (c + 1))) (sym k.2) (subst (λ j. value core.0 < 2 ^ j) core.4.1 (value_below core.0)) in
    let mono : 2 ^ (8 * (c + 1)) ≤ 2 ^ 64 = pow_mono {i = 8 * (c + 1)} {j = 64} (omega (arith, fewest, most)) in
    let whole : core.1 ≡ core.0 = core.4.0 in
    let text : core.0 ≡ bits (8 * octets_for n) n =
    sym (bits-value core.0) ∙ ap (λ j. bits j (value core.0)) core.4.1 ∙ ap (λ j. bits (8 * j) (value core.0)) (sym fewest)
    ∙ ap (bits (8 * octets_for n)) (sym k.2) in
    let tail : m.2 ≡ pad (at + length m.1) ++ bits (8 * octets_for n) n =
    inner.3 ∙ ap (λ (l : List Bool). l ++ inner.2) inner.4
    ∙ ap (λ (l : List Bool). pad (at + length m.1) ++ l)
    (core.3 ∙ ap (λ (l : List Bool). core.1 ++ l) k.3 ∙ append-nil core.1 ∙ whole ∙ text) in
    let head : m.1 ≡ bits (width_of (octets_for span - 1)) (octets_for n - 1) =
    m.4.1 ∙ ap (bits (width_of (octets_for span - 1))) (omega (arith, fewest)) in (
      within,
      omega (arith, wide, mono),
      m.3 ∙ ap (λ (l : List Bool). m.1 ++ l) tail
          ∙ ap (λ (l : List Bool). l ++ (pad (at + length l) ++ bits (8 * octets_for n) n)) head,
    )

large_from : (span n at : ℕ) (bs : List Bool) → IsLarge span n at bs → LargeStep span n at bs
large_from span n at bs m =
    let some = octets-some n in
    let mono = octets-mono n span m.0 in
    let count = bits (width_of (octets_for span - 1)) (octets_for n - 1) in
    let back : octets_for n - 1 + 1 ≡ octets_for n = omega (arith, some) in
    let text = bits (8 * octets_for n) n in
    let len : length text ≡ 8 * (octets_for n - 1 + 1) = length-bits (8 * octets_for n) n ∙ ap (λ j. 8 * j) (sym back) in
    let place : ℕ = at + length count + length (pad (at + length count)) + length text in
    let val : value text ≡ n = value-bits (8 * octets_for n) n (octets-fit n m.1) in (
      octets_for n - 1,
      count,
      pad (at + length count) ++ text,
      m.2,
      (omega (arith, mono), refl),
      (
        tt,
        pad (at + length count),
        text,
        refl,
        refl,
        (
          text,
          text,
          [],
          sym (append-nil text),
          (refl, len),
          subst (λ j. Last span (octets_for n - 1) text j place []) val
              (ok_last _ _ (value text) place (le-leb _ _ (subst (λ j. j ≤ span) (sym val) m.0))
              (eq-eqb _ _ (ap octets_for val ∙ sym back))),
        ),
      ),
    )

pub exact_large : (span : ℕ) → Exact (IsLarge span) (large_at span)
unfolding large_at
exact_large span =
    let most = octets-most span in
    exact_same (LargeStep span) (IsLarge span) (large_at span) (large_at span) (large_to span) (large_from span) (λ s. refl)
    (exact_bind (IsSmall (octets_for span - 1) (width_of (octets_for span - 1)))
    (λ c. Bind IsPad (λ u. Bind (IsBits (8 * (c + 1))) (Last span c)))
    (small_at (octets_for span - 1) (width_of (octets_for span - 1)))
    (λ c s. align_at s >>= λ a. take_at (8 * (c + 1)) a.1
    >>= λ x. cond (leb (value x.0) span) (cond (eqb (octets_for (value x.0)) (c + 1)) (Ok (value x.0, x.1)) (Err NotFewest))
    (Err Range))
    (exact_small (octets_for span - 1) (width_of (octets_for span - 1)) (width-fits (octets_for span - 1) (omega (arith, most))))
    (λ c. exact_bind IsPad (λ u. Bind (IsBits (8 * (c + 1))) (Last span c)) align_at
    (λ u s. take_at (8 * (c + 1)) s
    >>= λ x. cond (leb (value x.0) span) (cond (eqb (octets_for (value x.0)) (c + 1)) (Ok (value x.0, x.1)) (Err NotFewest))
    (Err Range))
    exact_align
    (λ u. exact_bind (IsBits (8 * (c + 1))) (Last span c) (take_at (8 * (c + 1)))
    (λ bs s. cond (leb (value bs) span) (cond (eqb (octets_for (value bs)) (c + 1)) (Ok (value bs, s)) (Err NotFewest)) (Err Range))
    (exact_take (8 * (c + 1)))
    (λ bs. exact_cond (leb (value bs) span) (Cond (eqb (octets_for (value bs)) (c + 1)) (Nothing (value bs)) Never) Never
    (λ s. cond (eqb (octets_for (value bs)) (c + 1)) (Ok (value bs, s)) (Err NotFewest)) (λ s. Err Range)
    (λ e. exact_cond (eqb (octets_for (value bs)) (c + 1)) (Nothing (value bs)) Never (λ s. Ok (value bs, s)) (λ s. Err NotFewest)
    (λ e. exact_ok (value bs)) (λ e. exact_err NotFewest))
    (λ e. exact_err Range)))))
