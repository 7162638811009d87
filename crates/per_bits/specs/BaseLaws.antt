-- Octet strings and small numbers are read exactly where they are spelled.
use Rattle.std.proofs.Common.{◌≡◌, ℕ, ◌+◌, ◌^◌, ◌<◌, ◌≤◌, Bool, true, false, cond, leb, ltb, List, [], ◌++◌, length, Ok, Err, refl, sym, ap, subst, ◌∙◌, arith}
use Rattle.std.proofs.lemmas.Bool.{leb-true, le-leb}
use Rattle.std.proofs.lemmas.List.{append-nil}
use Rattle.per_streams.specs.declared.fault.PerFault.TheVariants.{Range}
use Rattle.per_streams.specs.Bits.{value, bits, octet_bits, pad, IsBytes, ◌>>=◌, take_at, whole_octets_at, aligned_octets_at}
use Rattle.per_bits.specs.Spelling.{SpellsOctets}
use Rattle.per_bits.specs.Reading.{octets_at}
use Rattle.per_streams.specs.Reading.{small_at}
use Rattle.per_streams.specs.BitLaws.{value-bits, bits-value, length-bits}
use Rattle.per_streams.specs.Exact.{Exact, IsBits, exact_take, Bind, exact_bind, Nothing, exact_ok, Never, exact_err, exact_same, Cond, exact_cond}
use Rattle.per_streams.specs.OctetLaws.{AreOctets, AlignedStep, exact_whole_octets, exact_aligned_octets}

octets_cases : (b : Bool) (n : ℕ) (os : List ℕ) (at : ℕ) (bs : List Bool) → Cond b (AreOctets n) (AlignedStep n) os at bs
    → (length os ≡ n) × IsBytes os × (bs ≡ cond b (octet_bits os) (pad at ++ octet_bits os))
octets_cases true n os at bs m = m
octets_cases false n os at bs m = (m.5.0, m.5.1, rw (← m.4, ← m.5.2) m.3)

cases_octets : (b : Bool) (n : ℕ) (os : List ℕ) (at : ℕ) (bs : List Bool)
    → (length os ≡ n) × IsBytes os × (bs ≡ cond b (octet_bits os) (pad at ++ octet_bits os))
    → Cond b (AreOctets n) (AlignedStep n) os at bs
cases_octets true n os at bs m = m
cases_octets false n os at bs m = (tt, pad at, octet_bits os, m.2, refl, (m.0, m.1, refl))

pub exact_octets : (n : ℕ) → Exact (SpellsOctets n) (octets_at n)
unfolding octets_at
exact_octets n =
    exact_same (Cond (ltb n 3) (AreOctets n) (AlignedStep n)) (SpellsOctets n)
    (λ s. cond (ltb n 3) (whole_octets_at n s) (aligned_octets_at n s)) (octets_at n) (octets_cases (ltb n 3) n)
    (cases_octets (ltb n 3) n) (λ s. refl)
    (exact_cond (ltb n 3) (AreOctets n) (AlignedStep n) (whole_octets_at n) (aligned_octets_at n) (λ e. exact_whole_octets n)
    (λ e. exact_aligned_octets n))

-- ---- small numbers

abbrev pub IsSmall : ℕ → ℕ → ℕ → ℕ → List Bool → Type 0
IsSmall span w n at bs = (n ≤ span) × (bs ≡ bits w n)

abbrev SmallStep : ℕ → ℕ → ℕ → ℕ → List Bool → Type 0
SmallStep span w = Bind (IsBits w) (λ bs. Cond (leb (value bs) span) (Nothing (value bs)) Never)

number_ok : (b : Bool) (v n at : ℕ) (ys : List Bool) → Cond b (Nothing v) Never n at ys → (b ≡ true) × (n ≡ v) × (ys ≡ [])
number_ok true v n at ys m = (refl, m.0, m.1)
number_ok false v n at ys m = absurd m

ok_number : (b : Bool) (v at : ℕ) → b ≡ true → Cond b (Nothing v) Never v at []
ok_number true v at e = (refl, refl)
ok_number false v at e = absurd cc

small_to : (span w n at : ℕ) (bs : List Bool) → SmallStep span w n at bs → IsSmall span w n at bs
small_to span w n at bs m =
    let k = number_ok (leb (value m.0) span) (value m.0) n (at + length m.1) m.2 m.5 in
    let whole : bs ≡ m.0 = m.3 ∙ ap (λ (l : List Bool). m.1 ++ l) k.2 ∙ append-nil m.1 ∙ m.4.0 in
    let same : bits w (value m.0) ≡ m.0 = ap (λ j. bits j (value m.0)) (sym m.4.1) ∙ bits-value m.0 in
    (subst (λ j. j ≤ span) (sym k.1) (leb-true _ _ k.0), whole ∙ sym same ∙ ap (bits w) (sym k.1))

small_from : (span w : ℕ) → span < 2 ^ w → (n at : ℕ) (bs : List Bool) → IsSmall span w n at bs → SmallStep span w n at bs
small_from span w lt n at bs m =
    let v : value (bits w n) ≡ n = value-bits w n (let l = m.0 in omega (arith, l, lt)) in (
      bits w n,
      bs,
      [],
      sym (append-nil bs),
      (m.1, length-bits w n),
      subst (λ k. Cond (leb (value (bits w n)) span) (Nothing (value (bits w n))) Never k (at + length bs) []) v
          (ok_number (leb (value (bits w n)) span) (value (bits w n)) (at + length bs)
          (le-leb _ _ (subst (λ k. k ≤ span) (sym v) m.0))),
    )

pub exact_small : (span w : ℕ) → span < 2 ^ w → Exact (IsSmall span w) (small_at span w)
unfolding small_at
exact_small span w lt =
    exact_same (SmallStep span w) (IsSmall span w)
    (λ s. take_at w s >>= λ x. cond (leb (value x.0) span) (Ok (value x.0, x.1)) (Err Range)) (small_at span w) (small_to span w)
    (small_from span w lt) (λ s. refl)
    (exact_bind (IsBits w) (λ bs. Cond (leb (value bs) span) (Nothing (value bs)) Never) (take_at w)
    (λ bs s. cond (leb (value bs) span) (Ok (value bs, s)) (Err Range)) (exact_take w)
    (λ bs. exact_cond (leb (value bs) span) (Nothing (value bs)) Never (λ s. Ok (value bs, s)) (λ s. Err Range)
    (λ e. exact_ok (value bs)) (λ e. exact_err Range)))
