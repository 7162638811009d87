-- Lengths without a bound, and strings (X.691 clauses 11.9, 16 and 17).
use Rattle.std.proofs.Common.{◌≡◌, ℕ, ◌+◌, ◌-◌, ◌*◌, ◌<◌, ◌≤◌, Bool, true, false, cond, leb, ltb, List, ◌++◌, take, Result, Ok, Err, refl, ◌⊎◌, inl, inr, arith}
use Rattle.std.proofs.lemmas.Bool.{cases_lt, lt-ltb, le-ltb, le-leb, lt-leb, ltb-true, ltb-false, leb-true, leb-false}
use Rattle.per_streams.specs.declared.fault.PerFault.{PerFault}
use Rattle.per_streams.specs.declared.fault.PerFault.TheVariants.{Range, NotFewest, Fragmented}
use Rattle.per_streams.specs.Bits.{Place, ◌>>=◌, value, take_at, align_at, number_bits_at, long_length_at, length_at, open_at, whole_octets_at, aligned_octets_at, aligned_bits_at}
use Rattle.per_streams.specs.Exact.{Exact}
use Rattle.per_streams.specs.OctetLaws.{IsPad, exact_align}
use Rattle.per_streams.specs.Reading.{small_at, number_at}
use Rattle.per_bits.specs.BaseLaws.{IsSmall, exact_small}
use Rattle.per_bits.specs.FormatLaws.{exact_length, exact_number}
use Rattle.per_bits.specs.Reading.{octets_at, bits_at, between_at, bits_between_at}
use Rattle.per_bits.specs.Spelling.{SpellsLength, SpellsNumber}
use Rattle.laws_codecs.specs.Components.{Component, any_bits, padding_bits, length_octet, second_length_octet}
use Rattle.laws_codecs.specs.PerFaults.{AlignedBits, Alone, InOrder, LengthComponents, Nowhere, NumberComponents, StringComponents, Whether}
use Rattle.laws_codecs.proofs.Outcomes.{good}
use Rattle.laws_codecs.proofs.Telling.{Tells, tells_bind, tells_never, tells_same, tells_whether}
use Rattle.laws_codecs.proofs.Judging.{judges_one, judges_taken, left_at, tells_alone, verdict_if, verdict_unless}
use Rattle.laws_codecs.proofs.Bits.{tells_aligned_bits, tells_aligned_octets, tells_bits, tells_octets, tells_padding}
use Rattle.laws_codecs.proofs.Numbers.{tells_number}

-- ---- a length's first octet

abbrev first_read : PerFault → List Bool × Place → Result (ℕ × Place) PerFault
first_read x y = cond (leb (value y.0) 191) (good {A = ℕ × Place} (value y.0, y.1)) (Err x)

abbrev first_at : Place → Result (ℕ × Place) PerFault
first_at s = take_at 8 s >>= first_read Fragmented

otherwise : {A : Type 0} (b : Bool) (y z : A) (d e : PerFault) → cond b (good y) (Err d) ≡ Ok z → cond b (good y) (Err e) ≡ Ok z
otherwise true y z d e h = h
otherwise false y z d e h = absurd cc

otherwise_read : (r : Result (List Bool × Place) PerFault) (z : ℕ × Place) (d e : PerFault)
    → (r >>= first_read d) ≡ Ok z → (r >>= first_read e) ≡ Ok z
otherwise_read (Ok y) z d e h = otherwise {A = ℕ × Place} (leb (value y.0) 191) (value y.0, y.1) z d e h
otherwise_read (Err f) z d e h = absurd cc

exact_first : Exact (IsSmall 191 8) first_at
unfolding small_at
exact_first =
    let h = exact_small 191 8 (omega arith) in
    record {
      again = λ n at bs rest m.
          otherwise_read (take_at 8 (record { at = at; rest = bs ++ rest })) _ Range Fragmented (h.again n at bs rest m);
      takes = λ s t n e. h.takes s t n (otherwise_read (take_at 8 s) (n, t) Fragmented Range e);
    }

fragment : (v : ℕ) → leb v 191 ≡ false → 192 ≤ v
fragment v e = let l = leb-false v 191 e in omega (arith, l)

no_fragment : (v : ℕ) → leb v 191 ≡ true → 192 ≤ v → ⊥
no_fragment v e le = let l = leb-true v 191 e in absurd (omega (arith, l, le))

tells_first : (s : Place) → Tells (Alone length_octet s) (first_at s)
tells_first s =
    let v = value (take 8 s.rest) in
    tells_alone length_octet s (first_at s)
    (judges_taken length_octet s 8 (first_read Fragmented) refl
    (λ room. judges_one length_octet s (first_read Fragmented (take 8 s.rest, left_at 8 s)) Fragmented (192 ≤ v) room
    (λ fault b. b) (λ c. (refl, c))
    (verdict_unless {A = ℕ × Place} (leb v 191) Fragmented (192 ≤ v) (v, left_at 8 s) (fragment v) (no_fragment v))))

-- ---- and its second

abbrev second_read : ℕ → List Bool × Place → Result (ℕ × Place) PerFault
second_read first x =
    cond (ltb ((first - 128) * 256 + value x.0) 128) (Err NotFewest) (Ok ((first - 128) * 256 + value x.0, x.1))

second_is : (first : ℕ) (r : Result (List Bool × Place) PerFault)
    → (r >>= second_read first)
    ≡ ((r >>= λ x. good {A = ℕ × Place} (value x.0, x.1))
    >>= λ second. cond (ltb ((first - 128) * 256 + second.0) 128) (Err NotFewest)
    (good {A = ℕ × Place} ((first - 128) * 256 + second.0, second.1)))
second_is first (Ok x) = refl
second_is first (Err f) = refl

short : (n : ℕ) → ltb n 128 ≡ true → n < 128
short n e = ltb-true n 128 e

not_short : (n : ℕ) → ltb n 128 ≡ false → n < 128 → ⊥
not_short n e lt = let l = ltb-false n 128 e in absurd (omega (arith, l, lt))

tells_second : (first : ℕ) (s : Place) → Tells (Alone (second_length_octet first) s) (long_length_at first s)
tells_second first s =
    let k = second_length_octet first in
    let n = (first - 128) * 256 + value (take 8 s.rest) in
    tells_same (Alone k s) (take_at 8 s >>= second_read first) (long_length_at first s) (second_is first (take_at 8 s))
    (tells_alone k s (take_at 8 s >>= second_read first)
    (judges_taken k s 8 (second_read first) refl
    (λ room. judges_one k s (second_read first (take 8 s.rest, left_at 8 s)) NotFewest (n < 128) room
    (λ fault b. b) (λ c. (refl, c))
    (verdict_if {A = ℕ × Place} (ltb n 128) NotFewest (n < 128) (n, left_at 8 s) (short n) (not_short n)))))

-- ---- a length

abbrev then_read : ℕ × Place → Result (ℕ × Place) PerFault
then_read first = cond (ltb first.0 128) (Ok first) (long_length_at first.0 first.1)

abbrev as_read : ℕ × Place → Result (ℕ × Place) PerFault
as_read first =
    cond (ltb first.0 128) (Ok first) (cond (ltb first.0 192) (long_length_at first.0 first.1) (Err Fragmented))

one_read : (v : ℕ) (t : Place) → (v < 192) ⊎ (192 ≤ v)
    → (cond (leb v 191) (good {A = ℕ × Place} (v, t)) (Err Fragmented) >>= then_read) ≡ as_read (v, t)
one_read v t (inl lt) = rw (le-leb v 191 (omega (arith, lt)), lt-ltb v 192 lt) refl
one_read v t (inr le) = rw (lt-leb v 191 (omega (arith, le)), le-ltb v 128 (omega (arith, le)), le-ltb v 192 le) refl

lengths_read : (r : Result (List Bool × Place) PerFault)
    → ((r >>= first_read Fragmented) >>= then_read) ≡ ((r >>= λ x. good {A = ℕ × Place} (value x.0, x.1)) >>= as_read)
lengths_read (Ok x) = one_read (value x.0) x.1 (cases_lt (value x.0) 192)
lengths_read (Err f) = refl

pub tells_length : (s : Place) → Tells (LengthComponents s) (length_at s)
unfolding length_at
tells_length s =
    let Octets : Place → Component → Place → Type 0 =
    InOrder (IsSmall 191 8) (Alone length_octet) (λ first. Whether (ltb first 128) Nowhere (Alone (second_length_octet first))) in
    tells_bind IsPad (Alone padding_bits) (λ u. Octets) align_at (λ u t. number_bits_at 8 t >>= as_read) s exact_align
    (tells_padding s)
    (λ u t k. tells_same (Octets t) (first_at t >>= then_read) (number_bits_at 8 t >>= as_read) (lengths_read (take_at 8 t))
    (tells_bind (IsSmall 191 8) (Alone length_octet)
    (λ first. Whether (ltb first 128) Nowhere (Alone (second_length_octet first))) first_at (λ first u. then_read (first, u)) t
    exact_first (tells_first t)
    (λ first u j. tells_whether (ltb first 128) Nowhere (Alone (second_length_octet first)) (good {A = ℕ × Place} (first, u))
    (long_length_at first u) u
    (λ e. tells_never (Nowhere u) (good {A = ℕ × Place} (first, u)) (first, u) (λ c here m. m) refl) (λ e. tells_second first u))))

-- ---- strings

pub tells_string : (s : Place) → Tells (StringComponents s) (open_at s)
unfolding open_at
tells_string s =
    tells_bind SpellsLength LengthComponents (λ n. AlignedBits (8 * n)) length_at (λ n t. aligned_octets_at n t) s exact_length
    (tells_length s) (λ n t k. tells_aligned_octets n t)

pub tells_fixed_octets : (n : ℕ) (s : Place)
    → Tells (Whether (ltb n 3) (Alone (any_bits (8 * n))) (AlignedBits (8 * n)) s) (octets_at n s)
unfolding octets_at
tells_fixed_octets n s =
    tells_whether (ltb n 3) (Alone (any_bits (8 * n))) (AlignedBits (8 * n)) (whole_octets_at n s) (aligned_octets_at n s) s
    (λ e. tells_octets n s) (λ e. tells_aligned_octets n s)

pub tells_fixed_bits : (n : ℕ) (s : Place)
    → Tells (Whether (ltb n 17) (Alone (any_bits n)) (AlignedBits n) s) (bits_at n s)
unfolding bits_at
tells_fixed_bits n s =
    tells_whether (ltb n 17) (Alone (any_bits n)) (AlignedBits n) (take_at n s) (aligned_bits_at n s) s (λ e. tells_bits n s)
    (λ e. tells_aligned_bits n s)

pub tells_octets_between : (lo hi : ℕ) (s : Place)
    → Tells (InOrder (SpellsNumber lo hi) (NumberComponents lo hi) (λ n. AlignedBits (8 * n)) s) (between_at lo hi s)
unfolding between_at
tells_octets_between lo hi s =
    tells_bind (SpellsNumber lo hi) (NumberComponents lo hi) (λ n. AlignedBits (8 * n)) (number_at lo hi)
    (λ n t. aligned_octets_at n t) s (exact_number lo hi) (tells_number lo hi s) (λ n t k. tells_aligned_octets n t)

pub tells_bits_between : (lo hi : ℕ) (s : Place)
    → Tells (InOrder (SpellsNumber lo hi) (NumberComponents lo hi) AlignedBits s) (bits_between_at lo hi s)
unfolding bits_between_at
tells_bits_between lo hi s =
    tells_bind (SpellsNumber lo hi) (NumberComponents lo hi) AlignedBits (number_at lo hi) (λ n t. aligned_bits_at n t) s
    (exact_number lo hi) (tells_number lo hi s) (λ n t k. tells_aligned_bits n t)
