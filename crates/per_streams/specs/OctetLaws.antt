-- Alignment and octets are read exactly where they are spelled.
use Rattle.std.proofs.Common.{◌≡◌, ℕ, zero, suc, ◌+◌, ◌*◌, ◌^◌, ◌<◌, Bool, true, false, cond, eqb, List, [], ◌++◌, length, take, drop, replicate, Ok, Err, refl, sym, ap, subst, ◌∙◌, arith}
use Rattle.std.proofs.lemmas.Bool.{eqb-true, eq-eqb}
use Rattle.std.proofs.lemmas.List.{append-nil, length-replicate, length-take-le, length-drop, take-append-drop, nil_from_length}
use Rattle.std.proofs.lemmas.Nat.{pow_pos}
use Rattle.per_streams.specs.declared.fault.PerFault.TheVariants.{Padding, Trailing}
use Rattle.per_streams.specs.Bits.{value, bits, octet_bits, octets_of_bits, Place, padding, pad, IsBytes, ◌>>=◌, take_at, align_at, whole_octets_at, aligned_octets_at, end_at}
use Rattle.per_streams.specs.BitLaws.{bind_ok, where_ok, okay, value_below, value-bits, bits-value, bits-zero, length-octet_bits, octets-back}
use Rattle.per_streams.specs.Exact.{Exact, IsBits, exact_take, Bind, exact_bind, Nothing, exact_ok, Never, exact_err, exact_same, Cond, exact_cond}

abbrev pub IsPad : Unit {0} → ℕ → List Bool → Type 0
IsPad u at bs = bs ≡ pad at

-- zero bits
zero-pad : (bs : List Bool) (n : ℕ) → length bs ≡ n → value bs ≡ 0 → bs ≡ replicate n false
zero-pad bs n len e = sym (bits-value bs) ∙ ap (λ v. bits (length bs) v) e ∙ ap (λ k. bits k 0) len ∙ bits-zero n

pad-zero : (n : ℕ) → value (replicate n false) ≡ 0
pad-zero n = ap value (sym (bits-zero n)) ∙ value-bits n 0 (pow_pos n)

abbrev AlignStep : ℕ → Unit {0} → ℕ → List Bool → Type 0
AlignStep n = Bind (IsBits n) (λ bs. Cond (eqb (value bs) 0) (Nothing tt) Never)

align_step : (n : ℕ) → Exact (AlignStep n) (λ s. take_at n s >>= λ x. cond (eqb (value x.0) 0) (Ok (tt, x.1)) (Err Padding))
align_step n =
    exact_bind (IsBits n) (λ bs. Cond (eqb (value bs) 0) (Nothing tt) Never) (take_at n)
    (λ bs s. cond (eqb (value bs) 0) (Ok (tt, s)) (Err Padding)) (exact_take n)
    (λ bs. exact_cond (eqb (value bs) 0) (Nothing tt) Never (λ s. Ok (tt, s)) (λ s. Err Padding) (λ e. exact_ok tt)
    (λ e. exact_err Padding))

cond_ok : (b : Bool) (u : Unit {0}) (at : ℕ) (ys : List Bool) → Cond b (Nothing tt) Never u at ys → (b ≡ true) × (ys ≡ [])
cond_ok true u at ys m = (refl, m.1)
cond_ok false u at ys m = absurd m

ok_cond : (b : Bool) (u : Unit {0}) (at : ℕ) → b ≡ true → Cond b (Nothing tt) Never u at []
ok_cond true u at e = (refl, refl)
ok_cond false u at e = absurd cc

align_to : (u : Unit {0}) (at : ℕ) (bs : List Bool) → AlignStep (padding at) u at bs → bs ≡ pad at
align_to u at bs m =
    let k = cond_ok (eqb (value m.0) 0) u (at + length m.1) m.2 m.5 in
    let whole : bs ≡ m.0 = m.3 ∙ ap (λ (l : List Bool). m.1 ++ l) k.1 ∙ append-nil m.1 ∙ m.4.0 in
    whole ∙ zero-pad m.0 (padding at) m.4.1 (eqb-true _ _ k.0)

align_from : (u : Unit {0}) (at : ℕ) → AlignStep (padding at) u at (pad at)
align_from u at = (
  pad at,
  pad at,
  [],
  sym (append-nil (pad at)),
  (refl, length-replicate (padding at) false),
  ok_cond (eqb (value (pad at)) 0) u (at + length (pad at)) (eq-eqb _ 0 (pad-zero (padding at))),
)

pub exact_align : Exact IsPad align_at
unfolding align_at
exact_align = record {
  again = λ u at bs rest m.
      (align_step (padding at)).again u at bs rest
      (subst (λ (l : List Bool). AlignStep (padding at) u at l) (sym m) (align_from u at));
  takes = λ s t u e.
      let k = (align_step (padding s.at)).takes s t u e in
      record { taken = k.taken; parts = k.parts; at = k.at; spelled = align_to u s.at k.taken k.spelled };
}

-- ---- octets

length-octets_of : (n : ℕ) (bs : List Bool) → length (octets_of_bits n bs) ≡ n
unfolding octets_of_bits
length-octets_of zero bs = refl
length-octets_of (suc n) bs = ap suc (length-octets_of n (drop 8 bs))

pub bytes-octets_of : (n : ℕ) (bs : List Bool) → length bs ≡ 8 * n → IsBytes (octets_of_bits n bs)
unfolding octets_of_bits
bytes-octets_of zero bs len i = omega arith
bytes-octets_of (suc n) bs len zero = let l : length (take 8 bs) ≡ 8 = length-take-le 8 bs (omega (arith, len)) in
    subst (λ k. value (take 8 bs) < 2 ^ k) l (value_below (take 8 bs))
bytes-octets_of (suc n) bs len (suc i) = bytes-octets_of n (drop 8 bs) (omega (arith, len, length-drop 8 bs)) i

pub bits-octets_of : (n : ℕ) (bs : List Bool) → length bs ≡ 8 * n → octet_bits (octets_of_bits n bs) ≡ bs
unfolding octets_of_bits
bits-octets_of zero bs len = sym (nil_from_length bs (omega (arith, len)))
bits-octets_of (suc n) bs len =
    let l : length (take 8 bs) ≡ 8 = length-take-le 8 bs (omega (arith, len)) in
    let first : bits 8 (value (take 8 bs)) ≡ take 8 bs = ap (λ k. bits k (value (take 8 bs))) (sym l) ∙ bits-value (take 8 bs) in
    rw (first, bits-octets_of n (drop 8 bs) (omega (arith, len, length-drop 8 bs))) (take-append-drop 8 bs)

abbrev pub AreOctets : ℕ → List ℕ → ℕ → List Bool → Type 0
AreOctets n os at bs = (length os ≡ n) × IsBytes os × (bs ≡ octet_bits os)

abbrev OctetsStep : ℕ → List ℕ → ℕ → List Bool → Type 0
OctetsStep n = Bind (IsBits (8 * n)) (λ bs. Nothing (octets_of_bits n bs))

octets_to : (n : ℕ) (os : List ℕ) (at : ℕ) (bs : List Bool) → OctetsStep n os at bs → AreOctets n os at bs
octets_to n os at bs m =
    let whole : bs ≡ m.0 = m.3 ∙ ap (λ (l : List Bool). m.1 ++ l) m.5.1 ∙ append-nil m.1 ∙ m.4.0 in
    subst (λ (l : List ℕ). AreOctets n l at bs) (sym m.5.0)
    (length-octets_of n m.0, bytes-octets_of n m.0 m.4.1, whole ∙ sym (bits-octets_of n m.0 m.4.1))

octets_from : (n : ℕ) (os : List ℕ) (at : ℕ) (bs : List Bool) → AreOctets n os at bs → OctetsStep n os at bs
octets_from n os at bs m =
    let back : os ≡ octets_of_bits n (octet_bits os) = sym (octets-back os m.1) ∙ ap (λ k. octets_of_bits k (octet_bits os)) m.0 in
    (octet_bits os, bs, [], sym (append-nil bs), (m.2, (let l = m.0 in omega (arith, l, length-octet_bits os))), (back, refl))

pub exact_whole_octets : (n : ℕ) → Exact (AreOctets n) (whole_octets_at n)
unfolding whole_octets_at
exact_whole_octets n =
    exact_same (OctetsStep n) (AreOctets n) (λ s. take_at (8 * n) s >>= λ x. Ok (octets_of_bits n x.0, x.1)) (whole_octets_at n)
    (octets_to n) (octets_from n) (λ s. refl)
    (exact_bind (IsBits (8 * n)) (λ bs. Nothing (octets_of_bits n bs)) (take_at (8 * n)) (λ bs s. Ok (octets_of_bits n bs, s))
    (exact_take (8 * n)) (λ bs. exact_ok (octets_of_bits n bs)))

-- ---- a complete encoding

pub exact_end : (s t : Place) (u : Unit {0}) → end_at s ≡ Ok (u, t) → s.rest ≡ pad s.at
unfolding end_at
exact_end s t u e =
    let last : Unit {0} × Place = (u, t) in
    let a = bind_ok (align_at s) (λ a. cond (eqb (length a.1.rest) 0) (okay a) (Err Trailing)) last e in
    let b = where_ok (eqb (length a.0.1.rest) 0) Trailing a.0 last a.2 in
    let k = exact_align.takes s a.0.1 a.0.0 a.1 in
    let none : a.0.1.rest ≡ [] = nil_from_length a.0.1.rest (eqb-true _ _ b.0) in
    k.parts ∙ ap (λ (l : List Bool). k.taken ++ l) none ∙ append-nil k.taken ∙ k.spelled

pub end_again : (at : ℕ) → end_at (record { at = at; rest = pad at }) ≡ Ok (tt, record { at = at + length (pad at); rest = [] })
unfolding end_at
end_again at =
    let whole : pad at ++ [] ≡ pad at = append-nil (pad at) in
    let k : align_at (record { at = at; rest = pad at }) ≡ Ok (tt, record { at = at + length (pad at); rest = [] }) =
    ap (λ (l : List Bool). align_at (record { at = at; rest = l })) (sym whole) ∙ exact_align.again tt at (pad at) [] refl in
    rw k refl

-- ---- octets at a position

abbrev pub AlignedStep : ℕ → List ℕ → ℕ → List Bool → Type 0
AlignedStep n = Bind IsPad (λ u. AreOctets n)

pub exact_aligned_octets : (n : ℕ) → Exact (AlignedStep n) (aligned_octets_at n)
unfolding aligned_octets_at
exact_aligned_octets n =
    exact_same (AlignedStep n) (AlignedStep n) (λ s. align_at s >>= λ a. whole_octets_at n a.1) (aligned_octets_at n)
    (λ os at bs m. m) (λ os at bs m. m) (λ s. refl)
    (exact_bind IsPad (λ u. AreOctets n) align_at (λ u s. whole_octets_at n s) exact_align (λ u. exact_whole_octets n))
