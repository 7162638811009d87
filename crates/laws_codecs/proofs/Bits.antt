-- Bits of any value, padding, presence bits, a bit that is 0, and the end of octets.
use Rattle.std.proofs.Common.{◌≡◌, ℕ, zero, suc, ◌+◌, ◌*◌, ◌<◌, ◌≤◌, Bool, true, false, cond, eqb, List, [], ◌∷◌, length, take, replicate, Result, Ok, Err, refl, sym, ap, ◌∙◌, ◌⊎◌, inl, inr, arith}
use Rattle.std.proofs.lemmas.Bool.{cases_lt, eq-eqb, eqb-true}
use Rattle.std.proofs.lemmas.List.{nil_from_length}
use Rattle.std.proofs.lemmas.Nat.{pow_pos}
use Rattle.per_streams.specs.declared.fault.PerFault.{PerFault}
use Rattle.per_streams.specs.declared.fault.PerFault.TheVariants.{Truncated, Padding, Trailing}
use Rattle.per_streams.specs.Bits.{Place, ◌>>=◌, value, bits, padding, take_at, align_at, first_bit, bit_at, end_at, octets_of_bits, whole_octets_at, aligned_octets_at, aligned_bits_at}
use Rattle.per_streams.specs.BitLaws.{bits-value, bits-zero, value-bits}
use Rattle.per_streams.specs.Each.{times}
use Rattle.per_streams.specs.Exact.{Exact, Nothing, exact_ok, exact_same}
use Rattle.per_streams.specs.OctetLaws.{IsPad, exact_align}
use Rattle.per_streams.specs.PartLaws.{short as take_cut}
use Rattle.per_bits.specs.FormatLaws.{exact_closed}
use Rattle.per_bits.specs.Reading.{closed_at}
use Rattle.per_bits.specs.Spelling.{SpellsClosed}
use Rattle.laws_codecs.specs.Components.{any_bits, padding_bits, zero_bit, end_of_octets}
use Rattle.laws_codecs.specs.PerFaults.{AlignedBits, Alone, EndComponents, IsZeroBit}
use Rattle.laws_codecs.proofs.Outcomes.{good}
use Rattle.laws_codecs.proofs.Telling.{Tells, tells_bind, tells_map}
use Rattle.laws_codecs.proofs.Judging.{HasRoom, Judges, Verdict, judges_cut, judges_good, judges_one, judges_taken, left_at, take_room, tells_alone, verdict_unless}

-- ---- N bits

any_judged : (n : ℕ) (s : Place) → (length s.rest < n) ⊎ (n ≤ length s.rest) → Judges (any_bits n) s (take_at n s)
any_judged n s (inl cut) = judges_cut (any_bits n) s (take_at n s) cut (take_cut n s cut)
any_judged n s (inr room) =
    judges_good (any_bits n) s (take_at n s) (take n s.rest, left_at n s) room (λ fault b. b) (take_room n s room)

pub tells_bits : (n : ℕ) (s : Place) → Tells (Alone (any_bits n) s) (take_at n s)
tells_bits n s = tells_alone (any_bits n) s (take_at n s) (any_judged n s (cases_lt (length s.rest) n))

pub tells_octets : (n : ℕ) (s : Place) → Tells (Alone (any_bits (8 * n)) s) (whole_octets_at n s)
unfolding whole_octets_at
tells_octets n s =
    tells_map (Alone (any_bits (8 * n)) s) (take_at (8 * n) s) (λ x. (octets_of_bits n x.0, x.1)) (tells_bits (8 * n) s)

-- ---- padding

pub zeros : (bs : List Bool) → value bs ≡ 0 → bs ≡ replicate (length bs) false
zeros bs e = sym (bits-value bs) ∙ ap (λ v. bits (length bs) v) e ∙ bits-zero (length bs)

zeros_value : (n : ℕ) → value (replicate n false) ≡ 0
zeros_value n = ap value (sym (bits-zero n)) ∙ value-bits n 0 (pow_pos n)

pub not_zeros : (bs : List Bool) → eqb (value bs) 0 ≡ false → bs ≡ replicate (length bs) false → ⊥
not_zeros bs e z =
    let k : eqb (value bs) 0 ≡ true = eq-eqb (value bs) 0 (ap value z ∙ zeros_value (length bs)) in absurd (cc (e, k))

pub tells_padding : (s : Place) → Tells (Alone padding_bits s) (align_at s)
unfolding align_at
tells_padding s =
    let g : List Bool × Place → Result (Unit {0} × Place) PerFault =
    λ x. cond (eqb (value x.0) 0) (Ok (tt, x.1)) (Err Padding) in
    let bs = take (padding s.at) s.rest in
    tells_alone padding_bits s (take_at (padding s.at) s >>= g)
    (judges_taken padding_bits s (padding s.at) g refl
    (λ room. judges_one padding_bits s (g (bs, left_at (padding s.at) s)) Padding (bs ≡ replicate (length bs) false → ⊥) room
    (λ fault b. b) (λ c. (refl, c))
    (verdict_unless (eqb (value bs) 0) Padding (bs ≡ replicate (length bs) false → ⊥) (tt, left_at (padding s.at) s)
    (λ e. not_zeros bs e) (λ e c. c (zeros bs (eqb-true (value bs) 0 e))))))

pub tells_aligned_bits : (n : ℕ) (s : Place) → Tells (AlignedBits n s) (aligned_bits_at n s)
unfolding aligned_bits_at
tells_aligned_bits n s =
    tells_bind IsPad (Alone padding_bits) (λ u. Alone (any_bits n)) align_at (λ u t. take_at n t) s exact_align (tells_padding s)
    (λ u t k. tells_bits n t)

pub tells_aligned_octets : (n : ℕ) (s : Place) → Tells (AlignedBits (8 * n) s) (aligned_octets_at n s)
unfolding aligned_octets_at
tells_aligned_octets n s =
    tells_bind IsPad (Alone padding_bits) (λ u. Alone (any_bits (8 * n))) align_at (λ u t. whole_octets_at n t) s exact_align
    (tells_padding s) (λ u t k. tells_octets n t)

-- ---- presence bits

flags_cut : (n at : ℕ) (rest : List Bool) → length rest < n → times bit_at n (record { at = at; rest = rest }) ≡ Err Truncated
unfolding times
flags_cut zero at rest cut = absurd (omega (arith, cut))
flags_cut (suc n) at [] cut = refl
flags_cut (suc n) at (b ∷ rest) cut = rw (flags_cut n (at + 1) rest (omega (arith, cut))) refl

flags_room : (n at : ℕ) (rest : List Bool) → n ≤ length rest
    → (x : List Bool × Place) × (times bit_at n (record { at = at; rest = rest }) ≡ Ok x)
unfolding times
flags_room zero at rest room = (([], record { at = at; rest = rest }), refl)
flags_room (suc n) at [] room = absurd (omega (arith, room))
flags_room (suc n) at (b ∷ rest) room =
    let k = flags_room n (at + 1) rest (omega (arith, room)) in ((b ∷ k.0.0, k.0.1), rw (k.1) refl)

flags_judged : (n : ℕ) (s : Place) → (length s.rest < n) ⊎ (n ≤ length s.rest) → Judges (any_bits n) s (times bit_at n s)
flags_judged n s (inl cut) = judges_cut (any_bits n) s (times bit_at n s) cut (flags_cut n s.at s.rest cut)
flags_judged n s (inr room) =
    let k = flags_room n s.at s.rest room in judges_good (any_bits n) s (times bit_at n s) k.0 room (λ fault b. b) k.1

pub tells_flags : (n : ℕ) (s : Place) → Tells (Alone (any_bits n) s) (times bit_at n s)
tells_flags n s = tells_alone (any_bits n) s (times bit_at n s) (flags_judged n s (cases_lt (length s.rest) n))

bit_cut : (at : ℕ) (rest : List Bool) → length rest < 1 → first_bit at rest ≡ Err Truncated
bit_cut at [] cut = refl
bit_cut at (b ∷ rest) cut = absurd (omega (arith, cut))

bit_room : (at : ℕ) (rest : List Bool) → 1 ≤ length rest → (x : Bool × Place) × (first_bit at rest ≡ Ok x)
bit_room at [] room = absurd (omega (arith, room))
bit_room at (b ∷ rest) room = ((b, record { at = at + 1; rest = rest }), refl)

bit_judged : (s : Place) → (length s.rest < 1) ⊎ (1 ≤ length s.rest) → Judges (any_bits 1) s (bit_at s)
bit_judged s (inl cut) = judges_cut (any_bits 1) s (bit_at s) cut (bit_cut s.at s.rest cut)
bit_judged s (inr room) =
    let k = bit_room s.at s.rest room in judges_good (any_bits 1) s (bit_at s) k.0 room (λ fault b. b) k.1

pub tells_bit : (s : Place) → Tells (Alone (any_bits 1) s) (bit_at s)
tells_bit s = tells_alone (any_bits 1) s (bit_at s) (bit_judged s (cases_lt (length s.rest) 1))

-- ---- a bit that is 0

abbrev pub zero_at : PerFault → Place → Result (Unit {0} × Place) PerFault
zero_at x s = closed_at x (λ t. good {A = Unit {0} × Place} (tt, t)) s

abbrev zero_first : PerFault → ℕ → List Bool → Result (Unit {0} × Place) PerFault
zero_first x at rest = first_bit at rest >>= λ b. cond b.0 (Err x) (good {A = Unit {0} × Place} (tt, b.1))

zero_cut : (x : PerFault) (at : ℕ) (rest : List Bool) → length rest < 1 → zero_first x at rest ≡ Err Truncated
zero_cut x at [] cut = refl
zero_cut x at (b ∷ rest) cut = absurd (omega (arith, cut))

zero_verdict : (x : PerFault) (at : ℕ) (rest : List Bool) → 1 ≤ length rest
    → Verdict x (take 1 rest ≡ true ∷ []) (zero_first x at rest)
zero_verdict x at [] room = absurd (omega (arith, room))
zero_verdict x at (true ∷ rest) room = inl (cc, refl)
zero_verdict x at (false ∷ rest) room =
    inr (λ e. absurd (cc e), ((tt, record { at = at + 1; rest = rest }), refl))

zero_judged : (x : PerFault) (s : Place) → (length s.rest < 1) ⊎ (1 ≤ length s.rest) → Judges (zero_bit x) s (zero_at x s)
zero_judged x s (inl cut) = judges_cut (zero_bit x) s (zero_at x s) cut (zero_cut x s.at s.rest cut)
zero_judged x s (inr room) =
    judges_one (zero_bit x) s (zero_at x s) x (take 1 s.rest ≡ true ∷ []) room (λ fault b. b) (λ c. (refl, c))
    (zero_verdict x s.at s.rest room)

pub tells_zero : (x : PerFault) (s : Place) → Tells (Alone (zero_bit x) s) (zero_at x s)
tells_zero x s = tells_alone (zero_bit x) s (zero_at x s) (zero_judged x s (cases_lt (length s.rest) 1))

pub exact_zero : (x : PerFault) → Exact IsZeroBit (zero_at x)
exact_zero x =
    exact_same (SpellsClosed (Nothing tt)) IsZeroBit (zero_at x) (zero_at x)
    (λ u at bs m. m.1 ∙ ap (λ (l : List Bool). false ∷ l) m.2.1) (λ u at bs m. ([], m, (refl, refl))) (λ s. refl)
    (exact_closed x (Nothing tt) (λ t. good {A = Unit {0} × Place} (tt, t)) (exact_ok tt))

-- ---- the end of a complete encoding

abbrev ends : Unit {0} × Place → Result (Unit {0} × Place) PerFault
ends a = cond (eqb (length a.1.rest) 0) (Ok a) (Err Trailing)

some_left : (rest : List Bool) → eqb (length rest) 0 ≡ false → rest ≡ [] → ⊥
some_left rest e n = let k : eqb (length rest) 0 ≡ true = eq-eqb (length rest) 0 (ap length n) in absurd (cc (e, k))

none_left : (rest : List Bool) → eqb (length rest) 0 ≡ true → rest ≡ []
none_left rest e = nil_from_length rest (eqb-true (length rest) 0 e)

no_bits_before : (s : Place) → HasRoom end_of_octets s
no_bits_before s = omega arith

tells_last : (s : Place) → Tells (Alone end_of_octets s) (ends (tt, s))
tells_last s =
    tells_alone end_of_octets s (ends (tt, s))
    (judges_one end_of_octets s (ends (tt, s)) Trailing (s.rest ≡ [] → ⊥) (no_bits_before s) (λ fault b. b) (λ c. (refl, c))
    (verdict_unless (eqb (length s.rest) 0) Trailing (s.rest ≡ [] → ⊥) (tt, s) (λ e. some_left s.rest e)
    (λ e c. c (none_left s.rest e))))

pub tells_end : (s : Place) → Tells (EndComponents s) (end_at s)
unfolding end_at
tells_end s =
    tells_bind IsPad (Alone padding_bits) (λ u. Alone end_of_octets) align_at (λ u t. ends (u, t)) s exact_align (tells_padding s)
    (λ u t k. tells_last t)
