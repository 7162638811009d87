-- Each format is read exactly where it is spelled.
use Rattle.std.proofs.Common.{◌≡◌, ℕ, zero, suc, ◌+◌, ◌-◌, ◌*◌, ◌/◌, ◌^◌, ◌%◌, ◌<◌, ◌≤◌, Bool, true, false, cond, ltb, eqb, List, [], ◌∷◌, ◌++◌, length, Option, Some, None, Result, Ok, Err, refl, sym, ap, subst, ◌∙◌, arith, zero-add, inl, inr, ◌⊎◌}
use Rattle.std.proofs.lemmas.List.{append-nil}
use Rattle.std.proofs.lemmas.Bool.{ltb-true, lt-ltb, le-ltb, cases_lt, eqb-true, eq-eqb}
use Rattle.per_streams.specs.declared.fault.PerFault.{PerFault}
use Rattle.per_streams.specs.declared.fault.PerFault.TheVariants.{Range, NotFewest, Fragmented, Alternative}
use Rattle.per_streams.specs.Bits.{value, bits, Place, start, octet_bits, pad, ◌>>=◌, take_at, align_at, end_at, bit_at, first_bit, number_bits_at, long_length_at, length_at, open_at, aligned_octets_at, aligned_bits_at}
use Rattle.per_bits.specs.Formats.{Format, number, octets, octets_between, octet_string, bit_string, bits_between, enumerated, closed, items, open_type, plain, sequence, choice, Fields, done, must, may, skip, fixed, marked, Alternatives, last, either, Value, Values, optionals, alternatives, flag_of, flags_after, left_of, right_of}
use Rattle.per_bits.specs.Spelling.{IfLeft, IfRight, SpellsNumber, SpellsAligned, SpellsBits, SpellsAlignedBits, length_octets, SpellsLength, SpellsString, SpellsClosed, SpellsEnumerated, SpellsOptional, SpellsSkipped, trues, SpellsAdditions, Whole, Spells, SpellsFields, SpellsChosen, SpellsWhole}
use Rattle.per_streams.specs.Each.{SpellsEach, times}
use Rattle.per_streams.specs.Numbers.{offset_bits, width_of}
use Rattle.per_bits.specs.Reading.{between_at, bits_at, bits_between_at, closed_at, small_number_at, extended_at, root_at, enumerated_at, optional_at, skipped_at, additions_at, whole_at, inside_at, read_at, fields_at, chosen_at, complete_at}
use Rattle.per_streams.specs.Reading.{offset_at, small_at, large_at, number_at}
use Rattle.per_streams.specs.Exact.{Exact, Takes, IsBits, exact_take, Bind, exact_bind, Nothing, exact_ok, Never, exact_err, exact_same, Each, exact_times, Cond, exact_cond}
use Rattle.per_streams.specs.BitLaws.{ok_is, bind_ok, okay, value_below, bits-value, value-bits, length-bits}
use Rattle.per_bits.specs.BaseLaws.{exact_octets, IsSmall, exact_small}
use Rattle.per_streams.specs.OctetLaws.{exact_aligned_octets, exact_end, end_again, IsPad, exact_align}
use Rattle.per_bits.specs.LargeLaws.{exact_large, width-fits, large_bits}

abbrev Spelling : Type 0 → Type 1
Spelling A = A → ℕ → List Bool → Type 0

-- the last step of a reading gives back what was read
abbrev Mapped : {A B : Type 0} (S : A → ℕ → List Bool → Type 0) (f : A → B) → B → ℕ → List Bool → Type 0
Mapped S f = Bind S (λ a. Nothing (f a))

mapped : {A B : Type 0} (S : A → ℕ → List Bool → Type 0) (f : A → B) (b : B) (at : ℕ) (bs : List Bool) → Mapped S f b at bs
    → (a : A) × (b ≡ f a) × S a at bs
mapped S f b at bs m =
    let ys : m.1 ≡ bs = sym (m.3 ∙ ap (λ (l : List Bool). m.1 ++ l) m.5.1 ∙ append-nil m.1) in
    (m.0, m.5.0, subst (λ (l : List Bool). S m.0 at l) ys m.4)

to_mapped : {A B : Type 0} (S : A → ℕ → List Bool → Type 0) (f : A → B) (a : A) (at : ℕ) (bs : List Bool) → S a at bs
    → Mapped S f (f a) at bs
to_mapped S f a at bs h = (a, bs, [], sym (append-nil bs), h, (refl, refl))

exact_map : {A B : Type 0} (S : A → ℕ → List Bool → Type 0) (f : A → B) (r : Place → Result (A × Place) PerFault) → Exact S r
    → Exact (Mapped S f) (λ s. r s >>= λ x. Ok (f x.0, x.1))
exact_map S f r h = exact_bind S (λ a. Nothing (f a)) r (λ a s. Ok (f a, s)) h (λ a. exact_ok (f a))

-- ---- whole numbers

abbrev IsOffset : ℕ → ℕ → ℕ → List Bool → Type 0
IsOffset span n at bs = (n ≤ span) × (n < 2 ^ 64) × (bs ≡ offset_bits span n at)

abbrev Aligned : ℕ → ℕ → ℕ → ℕ → List Bool → Type 0
Aligned span w = Bind IsPad (λ u. IsSmall span w)

exact_aligned : (span w : ℕ) → span < 2 ^ w
    → Exact (λ n at bs. (n ≤ span) × (bs ≡ pad at ++ bits w n)) (λ s. align_at s >>= λ a. small_at span w a.1)
exact_aligned span w lt = exact_same (Aligned span w) _ (λ s. align_at s >>= λ a. small_at span w a.1) _
    (λ n at bs m. (m.5.0, rw (← m.4, ← m.5.1) m.3)) (λ n at bs m. (tt, pad at, bits w n, m.1, refl, (m.0, refl))) (λ s. refl)
    (exact_bind IsPad (λ u. IsSmall span w) align_at (λ u s. small_at span w s) exact_align (λ u. exact_small span w lt))

abbrev Spelt : ℕ → (ℕ → ℕ → List Bool) → ℕ → ℕ → List Bool → Type 0
Spelt span X n at bs = (n ≤ span) × (n < 2 ^ 64) × (bs ≡ X n at)

widen : (span : ℕ) (X : ℕ → ℕ → List Bool) (r : Place → Result (ℕ × Place) PerFault) → span < 2 ^ 64
    → Exact (λ n at bs. (n ≤ span) × (bs ≡ X n at)) r → Exact (Spelt span X) r
widen span X r lt h =
    exact_same (λ n at bs. (n ≤ span) × (bs ≡ X n at)) (Spelt span X) r r
    (λ n at bs m. (m.0, (let l = m.0 in omega (arith, l, lt)), m.1)) (λ n at bs m. (m.0, m.2)) (λ s. refl) h

abbrev choose : Bool → (ℕ → ℕ → List Bool) → (ℕ → ℕ → List Bool) → ℕ → ℕ → List Bool
choose b X Y n at = cond b (X n at) (Y n at)

abbrev choose_at : Bool → (Place → Result (ℕ × Place) PerFault) → (Place → Result (ℕ × Place) PerFault) → Place
    → Result (ℕ × Place) PerFault
choose_at b r q s = cond b (r s) (q s)

exact_choose : (b : Bool) (span : ℕ) (X Y : ℕ → ℕ → List Bool) (r q : Place → Result (ℕ × Place) PerFault)
    → (b ≡ true → Exact (Spelt span X) r) → (b ≡ false → Exact (Spelt span Y) q)
    → Exact (Spelt span (choose b X Y)) (choose_at b r q)
exact_choose true span X Y r q h k = h refl
exact_choose false span X Y r q h k = k refl

exact_offset : (span : ℕ) → Exact (IsOffset span) (offset_at span)
unfolding offset_at offset_bits
exact_offset span =
    exact_choose (ltb span 255) span (λ n at. bits (width_of span) n)
    (choose (ltb span 256) (λ n at. pad at ++ bits 8 n) (choose (ltb span 65536) (λ n at. pad at ++ bits 16 n) (large_bits span)))
    (small_at span (width_of span))
    (choose_at (ltb span 256) (λ s. align_at s >>= λ a. small_at span 8 a.1)
    (choose_at (ltb span 65536) (λ s. align_at s >>= λ a. small_at span 16 a.1) (large_at span)))
    (λ e. let l = ltb-true span 255 e in
    widen span (λ n at. bits (width_of span) n) (small_at span (width_of span)) (omega (arith, l))
    (exact_small span (width_of span) (width-fits span l)))
    (λ e. exact_choose (ltb span 256) span (λ n at. pad at ++ bits 8 n)
    (choose (ltb span 65536) (λ n at. pad at ++ bits 16 n) (large_bits span)) (λ s. align_at s >>= λ a. small_at span 8 a.1)
    (choose_at (ltb span 65536) (λ s. align_at s >>= λ a. small_at span 16 a.1) (large_at span))
    (λ e. let l = ltb-true span 256 e in
    widen span (λ n at. pad at ++ bits 8 n) (λ s. align_at s >>= λ a. small_at span 8 a.1) (omega (arith, l))
    (exact_aligned span 8 (omega (arith, l))))
    (λ e. exact_choose (ltb span 65536) span (λ n at. pad at ++ bits 16 n) (large_bits span)
    (λ s. align_at s >>= λ a. small_at span 16 a.1) (large_at span)
    (λ e. let l = ltb-true span 65536 e in
    widen span (λ n at. pad at ++ bits 16 n) (λ s. align_at s >>= λ a. small_at span 16 a.1) (omega (arith, l))
    (exact_aligned span 16 (omega (arith, l))))
    (λ e. exact_large span)))

pub exact_number : (lo hi : ℕ) → Exact (SpellsNumber lo hi) (number_at lo hi)
unfolding number_at
exact_number lo hi =
    exact_same (Mapped (IsOffset (hi - lo)) (λ k. lo + k)) (SpellsNumber lo hi)
    (λ s. offset_at (hi - lo) s >>= λ x. Ok (lo + x.0, x.1)) (number_at lo hi)
    (λ n at bs m. let k = mapped (IsOffset (hi - lo)) (λ k. lo + k) n at bs m in
    let q = k.1 in
    let e : n - lo ≡ k.0 = omega (arith, q) in
    (omega (arith, q), rw e k.2.0, rw e k.2.1, rw e k.2.2))
    (λ n at bs m.
    let low = m.0 in
    let back : lo + (n - lo) ≡ n = omega (arith, low) in
    subst (λ j. Mapped (IsOffset (hi - lo)) (λ k. lo + k) j at bs) back
    (to_mapped (IsOffset (hi - lo)) (λ k. lo + k) (n - lo) at bs (m.1, m.2, m.3)))
    (λ s. refl)
    (exact_map (IsOffset (hi - lo)) (λ k. lo + k) (offset_at (hi - lo)) (exact_offset (hi - lo)))

-- ---- optional values

optional_to : {A : Type 0} (S : A → ℕ → List Bool → Type 0) (o : Option A) (at : ℕ) (bs : List Bool)
    → Mapped S (λ a. Some a) o at bs → SpellsOptional true S o at bs
optional_to {A} S o at bs m =
    let k = mapped S (λ a. Some a) o at bs m in
    subst (λ (x : Option A). SpellsOptional true S x at bs) (sym k.1) k.2

optional_from : {A : Type 0} (S : A → ℕ → List Bool → Type 0) (o : Option A) (at : ℕ) (bs : List Bool)
    → SpellsOptional true S o at bs → Mapped S (λ a. Some a) o at bs
optional_from S None at bs m = absurd m
optional_from S (Some a) at bs m = to_mapped S (λ a. Some a) a at bs m

pub exact_optional : {A : Type 0} (b : Bool) (S : A → ℕ → List Bool → Type 0) (r : Place → Result (A × Place) PerFault) → Exact S r
    → Exact (SpellsOptional b S) (optional_at b r)
exact_optional false S r h = exact_ok None
exact_optional true S r h =
    exact_same (Mapped S (λ a. Some a)) (SpellsOptional true S) (λ s. r s >>= λ x. Ok (Some x.0, x.1)) (optional_at true r)
    (optional_to S) (optional_from S) (λ s. refl) (exact_map S (λ a. Some a) r h)

abbrev Unkept : {A : Type 0} (b : Bool) (S : A → ℕ → List Bool → Type 0) → Unit {0} → ℕ → List Bool → Type 0
Unkept b S u at bs = SpellsSkipped b S at bs

pub exact_skipped : {A : Type 0} (b : Bool) (S : A → ℕ → List Bool → Type 0) (r : Place → Result (A × Place) PerFault) → Exact S r
    → Exact (Unkept b S) (skipped_at b r)
exact_skipped false S r h =
    exact_same (Nothing tt) (Unkept false S) (λ s. Ok (tt, s)) (skipped_at false r) (λ u at bs m. m.1) (λ u at bs m. (refl, m))
    (λ s. refl) (exact_ok tt)
exact_skipped {A = A} true S r h =
    exact_same (Mapped S (λ a. tt)) (Unkept true S) (λ s. r s >>= λ x. Ok (tt, x.1)) (skipped_at true r)
    (λ u at bs m. let k = mapped S (λ a. tt) u at bs m in (k.0, k.2)) (λ u at bs m. to_mapped S (λ a. tt) m.0 at bs m.1) (λ s. refl)
    (exact_map S (λ a. tt) r h)

-- ---- a field and the fields after it

abbrev Pair : {A B : Type 0} (S : A → ℕ → List Bool → Type 0) (Q : B → ℕ → List Bool → Type 0) → A × B → ℕ → List Bool → Type 0
Pair S Q ab at bs = (xs : List Bool) × (ys : List Bool) × (bs ≡ xs ++ ys) × S ab.0 at xs × Q ab.1 (at + length xs) ys

abbrev PairBind : {A B : Type 0} (S : A → ℕ → List Bool → Type 0) (Q : B → ℕ → List Bool → Type 0) → A × B → ℕ → List Bool → Type 0
PairBind S Q = Bind S (λ a. Mapped Q (λ b. (a, b)))

pair_to : {A B : Type 0} (S : A → ℕ → List Bool → Type 0) (Q : B → ℕ → List Bool → Type 0) (ab : A × B) (at : ℕ) (bs : List Bool)
    → PairBind S Q ab at bs → Pair S Q ab at bs
pair_to {A} {B} S Q ab at bs m =
    let a = m.0 in
    let f : B → A × B = λ b. (a, b) in
    let k = mapped Q f ab (at + length m.1) m.2 m.5 in
    subst (λ (x : A × B). Pair S Q x at bs) (sym k.1) (m.1, m.2, m.3, m.4, k.2)

pair_from : {A B : Type 0} (S : A → ℕ → List Bool → Type 0) (Q : B → ℕ → List Bool → Type 0) (ab : A × B) (at : ℕ) (bs : List Bool)
    → Pair S Q ab at bs → PairBind S Q ab at bs
pair_from {A} {B} S Q ab at bs m =
    let f : B → A × B = λ b. (ab.0, b) in
    (ab.0, m.0, m.1, m.2, m.3, to_mapped Q f ab.1 (at + length m.0) m.1 m.4)

pub exact_pair : {A B : Type 0} (S : A → ℕ → List Bool → Type 0) (Q : B → ℕ → List Bool → Type 0)
    (r : Place → Result (A × Place) PerFault) (q : Place → Result (B × Place) PerFault)
    → Exact S r → Exact Q q
    → Exact (Pair S Q) (λ s. r s >>= λ x. q x.1 >>= λ y. Ok ((x.0, y.0), y.1))
exact_pair {A} {B} S Q r q h k =
    exact_same (PairBind S Q) (Pair S Q) (λ s. r s >>= λ x. q x.1 >>= λ y. Ok ((x.0, y.0), y.1))
    (λ s. r s >>= λ x. q x.1 >>= λ y. Ok ((x.0, y.0), y.1)) (pair_to S Q) (pair_from S Q) (λ s. refl)
    (exact_bind S (λ a. Mapped Q (λ b. (a, b))) r (λ a s. q s >>= λ y. Ok ((a, y.0), y.1)) h
    (λ a. exact_map {A = B} {B = A × B} Q (λ b. (a, b)) q k))

abbrev After : {A B : Type 0} (S : A → ℕ → List Bool → Type 0) (Q : B → ℕ → List Bool → Type 0) → B → ℕ → List Bool → Type 0
After S Q = Bind S (λ a. Q)

left_to : {A B : Type 0} (S : A → ℕ → List Bool → Type 0) (v : A ⊎ B) (at : ℕ) (bs : List Bool) → Mapped S (left_of {B = B}) v at bs
    → IfLeft v (λ x. S x at bs)
left_to {A} {B} S v at bs m =
    let k = mapped S (left_of {B = B}) v at bs m in
    subst (λ (w : A ⊎ B). IfLeft w (λ x. S x at bs)) (sym k.1) k.2

left_from : {A B : Type 0} (S : A → ℕ → List Bool → Type 0) (v : A ⊎ B) (at : ℕ) (bs : List Bool) → IfLeft v (λ x. S x at bs)
    → Mapped S (left_of {B = B}) v at bs
left_from {A} {B} S (inl a) at bs m = to_mapped S (left_of {B = B}) a at bs m
left_from S (inr b) at bs m = absurd m

right_to : {A B : Type 0} (S : B → ℕ → List Bool → Type 0) (v : A ⊎ B) (at : ℕ) (bs : List Bool)
    → Mapped S (right_of {A = A}) v at bs → IfRight v (λ x. S x at bs)
right_to {A} {B} S v at bs m =
    let k = mapped S (right_of {A = A}) v at bs m in
    subst (λ (w : A ⊎ B). IfRight w (λ x. S x at bs)) (sym k.1) k.2

right_from : {A B : Type 0} (S : B → ℕ → List Bool → Type 0) (v : A ⊎ B) (at : ℕ) (bs : List Bool) → IfRight v (λ x. S x at bs)
    → Mapped S (right_of {A = A}) v at bs
right_from S (inl a) at bs m = absurd m
right_from {A} {B} S (inr b) at bs m = to_mapped S (right_of {A = A}) b at bs m

-- ---- presence bits

abbrev pub IsBit : Bool → ℕ → List Bool → Type 0
IsBit b at bs = bs ≡ b ∷ []

bit-takes : (at : ℕ) (rest : List Bool) (b : Bool) (t : Place) → first_bit at rest ≡ Ok (b, t)
    → Takes IsBit (record { at = at; rest = rest }) b t
bit-takes at [] b t e = absurd cc
bit-takes at (x ∷ xs) b t e =
    let made : Bool × Place = (x, record { at = at + 1; rest = xs }) in
    subst (λ (y : Bool × Place). Takes IsBit (record { at = at; rest = x ∷ xs }) y.0 y.1) (ok_is made (b, t) e)
    (record { taken = x ∷ []; parts = refl; at = refl; spelled = refl })

pub exact_bit : Exact IsBit bit_at
exact_bit = record {
  again = λ b at bs rest m. rw m refl;
  takes = λ s t b e. bit-takes s.at s.rest b t e;
}

each_bit : (flags : List Bool) (at : ℕ) (bs : List Bool) → SpellsEach IsBit flags at bs → bs ≡ flags
each_bit [] at bs m = m
each_bit (b ∷ flags) at bs m = let e : m.1 ≡ flags = each_bit flags (at + length m.0) m.1 m.4 in m.2 ∙ rw (m.3, e) refl

bit_each : (flags : List Bool) (at : ℕ) → SpellsEach IsBit flags at flags
bit_each [] at = refl
bit_each (b ∷ flags) at = (b ∷ [], flags, refl, refl, bit_each flags (at + 1))

pub exact_flags : (n : ℕ) → Exact (IsBits n) (times bit_at n)
exact_flags n = exact_same (Each IsBit n) (IsBits n) (times bit_at n) (times bit_at n)
    (λ flags at bs m. (each_bit flags at bs m.1, m.0))
    (λ flags at bs m. (m.1, subst (λ (l : List Bool). SpellsEach IsBit flags at l) (sym m.0) (bit_each flags at))) (λ s. refl)
    (exact_times IsBit bit_at exact_bit n)

-- ---- an extension bit

closed_case : {A : Type 0} (S : A → ℕ → List Bool → Type 0) (b : Bool) (a : A) (at : ℕ) (bs xs ys : List Bool) → bs ≡ xs ++ ys
    → xs ≡ b ∷ [] → Cond b Never S a (at + length xs) ys → SpellsClosed S a at bs
closed_case S true a at bs xs ys e k m = absurd m
closed_case S false a at bs xs ys e k m =
    (ys, e ∙ ap (λ (l : List Bool). l ++ ys) k, subst (λ (l : List Bool). S a (at + length l) ys) k m)

pub exact_closed : {A : Type 0} (fault : PerFault) (S : A → ℕ → List Bool → Type 0) (r : Place → Result (A × Place) PerFault)
    → Exact S r → Exact (SpellsClosed S) (closed_at fault r)
exact_closed {A = A} fault S r h =
    exact_same (Bind IsBit (λ b. Cond b Never S)) (SpellsClosed S) (λ s. bit_at s >>= λ b. cond b.0 (Err fault) (r b.1))
    (closed_at fault r)
    (λ a at bs m. closed_case S m.0 a at bs m.1 m.2 m.3 m.4 m.5) (λ a at bs m. (false, false ∷ [], m.0, m.1, refl, m.2)) (λ s. refl)
    (exact_bind IsBit (λ b. Cond b Never S) bit_at (λ b s. cond b (Err fault) (r s)) exact_bit
    (λ b. exact_cond b Never S (λ s. Err fault) r (λ e. exact_err fault) (λ e. h)))

pub exact_small_number : Exact (SpellsClosed (SpellsNumber 0 63)) small_number_at
exact_small_number = exact_closed Range (SpellsNumber 0 63) (number_at 0 63) (exact_number 0 63)

abbrev IsExtended : ℕ ⊎ ℕ → ℕ → List Bool → Type 0
IsExtended = Mapped (SpellsClosed (SpellsNumber 0 63)) right_of

abbrev IsRoot : ℕ → ℕ ⊎ ℕ → ℕ → List Bool → Type 0
IsRoot n = Mapped (SpellsNumber 0 n) left_of

enumerated_case : (n : ℕ) (b : Bool) (v : ℕ ⊎ ℕ) (at : ℕ) (bs xs ys : List Bool) → bs ≡ xs ++ ys → xs ≡ b ∷ []
    → Cond b IsExtended (IsRoot n) v (at + length xs) ys → SpellsEnumerated n v at bs
enumerated_case n true v at bs xs ys e k m =
    let j = mapped (SpellsClosed (SpellsNumber 0 63)) right_of v (at + length xs) ys m in
    subst (λ (w : ℕ ⊎ ℕ). SpellsEnumerated n w at bs) (sym j.1) (
      ys,
      e ∙ ap (λ (l : List Bool). l ++ ys) k,
      subst (λ (l : List Bool). SpellsClosed (SpellsNumber 0 63) j.0 (at + length l) ys) k j.2,
    )
enumerated_case n false v at bs xs ys e k m =
    let j = mapped (SpellsNumber 0 n) left_of v (at + length xs) ys m in
    subst (λ (w : ℕ ⊎ ℕ). SpellsEnumerated n w at bs) (sym j.1)
    (ys, e ∙ ap (λ (l : List Bool). l ++ ys) k, subst (λ (l : List Bool). SpellsNumber 0 n j.0 (at + length l) ys) k j.2)

case_enumerated : (n : ℕ) (v : ℕ ⊎ ℕ) (at : ℕ) (bs : List Bool) → SpellsEnumerated n v at bs
    → Bind IsBit (λ b. Cond b IsExtended (IsRoot n)) v at bs
case_enumerated n (inl k) at bs m = (false, false ∷ [], m.0, m.1, refl, to_mapped (SpellsNumber 0 n) left_of k (at + 1) m.0 m.2)
case_enumerated n (inr k) at bs m =
    (true, true ∷ [], m.0, m.1, refl, to_mapped (SpellsClosed (SpellsNumber 0 63)) right_of k (at + 1) m.0 m.2)

exact_enumerated : (n : ℕ) → Exact (SpellsEnumerated n) (enumerated_at n)
unfolding enumerated_at
exact_enumerated n =
    exact_same (Bind IsBit (λ b. Cond b IsExtended (IsRoot n))) (SpellsEnumerated n)
    (λ s. bit_at s >>= λ b. cond b.0 (extended_at b.1) (root_at n b.1)) (enumerated_at n)
    (λ v at bs m. enumerated_case n m.0 v at bs m.1 m.2 m.3 m.4 m.5) (case_enumerated n) (λ s. refl)
    (exact_bind IsBit (λ b. Cond b IsExtended (IsRoot n)) bit_at (λ b s. cond b (extended_at s) (root_at n s)) exact_bit
    (λ b. exact_cond b IsExtended (IsRoot n) extended_at (root_at n)
    (λ e. exact_map (SpellsClosed (SpellsNumber 0 63)) right_of small_number_at exact_small_number)
    (λ e. exact_map (SpellsNumber 0 n) left_of (number_at 0 n) (exact_number 0 n))))

-- ---- lengths

abbrev IsNumber : ℕ → ℕ → ℕ → List Bool → Type 0
IsNumber w n at bs = (n < 2 ^ w) × (bs ≡ bits w n)

exact_number_bits : (w : ℕ) → Exact (IsNumber w) (number_bits_at w)
exact_number_bits w =
    exact_same (Mapped (IsBits w) value) (IsNumber w) (λ s. take_at w s >>= λ x. Ok (value x.0, x.1)) (number_bits_at w)
    (λ n at bs m. let k = mapped (IsBits w) value n at bs m in
    let len : length k.0 ≡ w = k.2.1 in (
      subst (λ j. j < 2 ^ w) (sym k.1) (subst (λ j. value k.0 < 2 ^ j) len (value_below k.0)),
      k.2.0 ∙ sym (bits-value k.0) ∙ ap (λ j. bits j (value k.0)) len ∙ ap (bits w) (sym k.1),
    ))
    (λ n at bs m. let v : value (bits w n) ≡ n = value-bits w n m.0 in
    subst (λ j. Mapped (IsBits w) value j at bs) v (to_mapped (IsBits w) value (bits w n) at bs (m.1, length-bits w n)))
    (λ s. refl) (exact_map (IsBits w) value (take_at w) (exact_take w))

cond_yes : {A : Type 0} (b : Bool) (S Q : A → ℕ → List Bool → Type 0) (a : A) (at : ℕ) (bs : List Bool) → b ≡ true
    → Cond b S Q a at bs → S a at bs
cond_yes true S Q a at bs e m = m
cond_yes false S Q a at bs e m = absurd cc

cond_no : {A : Type 0} (b : Bool) (S Q : A → ℕ → List Bool → Type 0) (a : A) (at : ℕ) (bs : List Bool) → b ≡ false
    → Cond b S Q a at bs → Q a at bs
cond_no true S Q a at bs e m = absurd cc
cond_no false S Q a at bs e m = m

yes_cond : {A : Type 0} (b : Bool) (S Q : A → ℕ → List Bool → Type 0) (a : A) (at : ℕ) (bs : List Bool) → b ≡ true → S a at bs
    → Cond b S Q a at bs
yes_cond true S Q a at bs e m = m
yes_cond false S Q a at bs e m = absurd cc

no_cond : {A : Type 0} (b : Bool) (S Q : A → ℕ → List Bool → Type 0) (a : A) (at : ℕ) (bs : List Bool) → b ≡ false → Q a at bs
    → Cond b S Q a at bs
no_cond true S Q a at bs e m = absurd cc
no_cond false S Q a at bs e m = m

abbrev Last : ℕ → ℕ → ℕ → List Bool → Type 0
Last n = Cond (ltb n 128) Never (Nothing n)

abbrev Second : ℕ → ℕ → ℕ → List Bool → Type 0
Second first = Bind (IsNumber 8) (λ second. Last ((first - 128) * 256 + second))

abbrev First : ℕ → ℕ → ℕ → List Bool → Type 0
First first = Cond (ltb first 128) (Nothing first) (Cond (ltb first 192) (Second first) Never)

abbrev LengthStep : ℕ → ℕ → List Bool → Type 0
LengthStep = Bind IsPad (λ u. Bind (IsNumber 8) First)

short-octets : (n : ℕ) → n < 128 → length_octets n ≡ n ∷ []
short-octets n lt = rw (lt-ltb n 128 lt) refl

long-octets : (n : ℕ) → 128 ≤ n → length_octets n ≡ (128 + n / 256) ∷ ((n % 256) ∷ [])
long-octets n le = rw (le-ltb n 128 le) refl

last_to : (v n at : ℕ) (bs : List Bool) → Last v n at bs → (128 ≤ v) × (n ≡ v) × (bs ≡ [])
last_to v n at bs m = elim (cases_lt v 128) [
  | inl lt ↦ absurd (cond_yes (ltb v 128) Never (Nothing v) n at bs (lt-ltb v 128 lt) m)
  | inr le ↦ let k = cond_no (ltb v 128) Never (Nothing v) n at bs (le-ltb v 128 le) m in (le, k.0, k.1)
]

second_to : (first n at : ℕ) (bs : List Bool) → first < 192 → 128 ≤ first → Second first n at bs
    → (n < 16384) × (bits 8 first ++ bs ≡ octet_bits (length_octets n))
second_to first n at bs lt le m =
    let k = last_to ((first - 128) * 256 + m.0) n (at + length m.1) m.2 m.5 in
    let v = k.1 in
    let b = m.4.0 in
    let ge = k.0 in
    let high : 128 + n / 256 ≡ first = omega (arith, v, b, lt, le) in
    let low : n % 256 ≡ m.0 = omega (arith, v, b, lt, le) in
    let os : length_octets n ≡ first ∷ (m.0 ∷ []) = long-octets n (omega (arith, v, ge)) ∙ rw (high, low) refl in
    let rest : bs ≡ bits 8 m.0 ++ [] = m.3 ∙ rw (k.2, m.4.1) refl in
    (omega (arith, v, b, lt, le), rw (os, rest) refl)

first_to : (first n at : ℕ) (bs : List Bool) → First first n at bs
    → (n < 16384) × (bits 8 first ++ bs ≡ octet_bits (length_octets n))
first_to first n at bs m = elim (cases_lt first 128) [
  | inl lt ↦
      let k =
      cond_yes (ltb first 128) (Nothing first) (Cond (ltb first 192) (Second first) Never) n at bs (lt-ltb first 128 lt) m in
      let e = k.0 in
      let os : length_octets n ≡ first ∷ [] = short-octets n (omega (arith, e, lt)) ∙ rw k.0 refl in
      (omega (arith, e, lt), rw (os, k.1) refl)
  | inr le ↦
      let k = cond_no (ltb first 128) (Nothing first) (Cond (ltb first 192) (Second first) Never) n at bs (le-ltb first 128 le) m in
      elim (cases_lt first 192) [
        | inl lt ↦ second_to first n at bs lt le (cond_yes (ltb first 192) (Second first) Never n at bs (lt-ltb first 192 lt) k)
        | inr ge ↦ absurd (cond_no (ltb first 192) (Second first) Never n at bs (le-ltb first 192 ge) k)
      ]
]

length_to : (n at : ℕ) (bs : List Bool) → LengthStep n at bs → SpellsLength n at bs
length_to n at bs m =
    let inner = m.5 in
    let k = first_to inner.0 n (at + length m.1 + length inner.1) inner.2 inner.5 in
    let text : m.2 ≡ octet_bits (length_octets n) = inner.3 ∙ ap (λ (l : List Bool). l ++ inner.2) inner.4.1 ∙ k.1 in
    (k.0, m.3 ∙ ap (λ (l : List Bool). l ++ m.2) m.4 ∙ ap (λ (l : List Bool). pad at ++ l) text)

first_from : (n at : ℕ) → n < 16384 → Bind (IsNumber 8) First n at (octet_bits (length_octets n))
first_from n at lt = elim (cases_lt n 128) [
  | inl few ↦
      let e : octet_bits (length_octets n) ≡ bits 8 n ++ [] = ap octet_bits (short-octets n few) in (
        n,
        bits 8 n,
        [],
        e,
        (omega (arith, few), refl),
        yes_cond (ltb n 128) (Nothing n) (Cond (ltb n 192) (Second n) Never) n (at + length (bits 8 n)) [] (lt-ltb n 128 few)
            (refl, refl),
      )
  | inr many ↦
      let high = 128 + n / 256 in
      let low = n % 256 in
      let e : octet_bits (length_octets n) ≡ bits 8 high ++ (bits 8 low ++ []) = ap octet_bits (long-octets n many) in
      let v : (high - 128) * 256 + low ≡ n = omega arith in
      let at2 = at + length (bits 8 high) in
      let at3 = at2 + length (bits 8 low) in
      let last : Last n n at3 [] = no_cond (ltb n 128) Never (Nothing n) n at3 [] (le-ltb n 128 many) (refl, refl) in
      let second : Second high n at2 (bits 8 low ++ []) =
      (low, bits 8 low, [], refl, (omega arith, refl), subst (λ j. Last j n at3 []) (sym v) last) in (
        high,
        bits 8 high,
        bits 8 low ++ [],
        e,
        (omega (arith, lt), refl),
        no_cond (ltb high 128) (Nothing high) (Cond (ltb high 192) (Second high) Never) n at2 (bits 8 low ++ [])
            (le-ltb high 128 (omega arith))
            (yes_cond (ltb high 192) (Second high) Never n at2 (bits 8 low ++ []) (lt-ltb high 192 (omega (arith, lt))) second),
      )
]

pub exact_length : Exact SpellsLength length_at
unfolding length_at
exact_length =
    exact_same LengthStep SpellsLength length_at length_at length_to
    (λ n at bs m. (tt, pad at, octet_bits (length_octets n), m.1, refl, first_from n (at + length (pad at)) m.0)) (λ s. refl)
    (exact_bind IsPad (λ u. Bind (IsNumber 8) First) align_at
    (λ u s. number_bits_at 8 s
    >>= λ first. cond (ltb first.0 128) (Ok first)
    (cond (ltb first.0 192) (long_length_at first.0 first.1) (Err Fragmented))) exact_align
    (λ u. exact_bind (IsNumber 8) First (number_bits_at 8)
    (λ first s. cond (ltb first 128) (Ok (first, s)) (cond (ltb first 192) (long_length_at first s) (Err Fragmented)))
    (exact_number_bits 8)
    (λ first. exact_cond (ltb first 128) (Nothing first) (Cond (ltb first 192) (Second first) Never) (λ s. Ok (first, s))
    (λ s. cond (ltb first 192) (long_length_at first s) (Err Fragmented))
    (λ e. exact_ok first)
    (λ e. exact_cond (ltb first 192) (Second first) Never (long_length_at first) (λ s. Err Fragmented)
    (λ e. exact_bind (IsNumber 8) (λ second. Last ((first - 128) * 256 + second)) (number_bits_at 8)
    (λ second s. cond (ltb ((first - 128) * 256 + second) 128) (Err NotFewest) (Ok ((first - 128) * 256 + second, s)))
    (exact_number_bits 8)
    (λ second. exact_cond (ltb ((first - 128) * 256 + second) 128) Never (Nothing ((first - 128) * 256 + second))
    (λ s. Err NotFewest) (λ s. Ok ((first - 128) * 256 + second, s)) (λ e. exact_err NotFewest)
    (λ e. exact_ok ((first - 128) * 256 + second))))
    (λ e. exact_err Fragmented)))))

-- ---- a number N and N of something

abbrev Counted : {A : Type 0} (N : ℕ → ℕ → List Bool → Type 0) (T : ℕ → List A → ℕ → List Bool → Type 0) → List A → ℕ → List Bool
    → Type 0
Counted N T v at bs =
    (xs : List Bool) × (ys : List Bool) × (bs ≡ xs ++ ys) × N (length v) at xs × T (length v) v (at + length xs) ys

exact_counted : {A : Type 0} (N : ℕ → ℕ → List Bool → Type 0) (T : ℕ → List A → ℕ → List Bool → Type 0)
    (r : Place → Result (ℕ × Place) PerFault) (q : ℕ → Place → Result (List A × Place) PerFault)
    → ((n : ℕ) (v : List A) (at : ℕ) (bs : List Bool) → T n v at bs → length v ≡ n) → Exact N r → ((n : ℕ) → Exact (T n) (q n))
    → Exact (Counted N T) (λ s. r s >>= λ n. q n.0 n.1)
exact_counted {A = A} N T r q len h k =
    exact_same (Bind N T) (Counted N T) (λ s. r s >>= λ n. q n.0 n.1) (λ s. r s >>= λ n. q n.0 n.1)
    (λ v at bs m. let e : m.0
    ≡ length v =
    sym (len m.0 v (at + length m.1) m.2 m.5) in
    (m.1, m.2, m.3, subst (λ n. N n at m.1) e m.4, subst (λ n. T n v (at + length m.1) m.2) e m.5))
    (λ v at bs m. (length v, m.0, m.1, m.2, m.3, m.4)) (λ s. refl) (exact_bind N T r q h k)

exact_octets_aligned : (n : ℕ) → Exact (SpellsAligned n) (aligned_octets_at n)
exact_octets_aligned n = exact_same _ (SpellsAligned n) (aligned_octets_at n) (aligned_octets_at n)
    (λ os at bs m. (m.5.0, m.5.1, rw (← m.4, ← m.5.2) m.3)) (λ os at bs m. (tt, pad at, octet_bits os, m.2, refl, (m.0, m.1, refl)))
    (λ s. refl) (exact_aligned_octets n)

pub exact_string : Exact SpellsString open_at
unfolding open_at
exact_string =
    exact_counted SpellsLength SpellsAligned length_at aligned_octets_at (λ n v at bs m. m.0) exact_length exact_octets_aligned

exact_between : (lo hi : ℕ) → Exact (Counted (SpellsNumber lo hi) SpellsAligned) (between_at lo hi)
unfolding between_at
exact_between lo hi =
    exact_counted (SpellsNumber lo hi) SpellsAligned (number_at lo hi) aligned_octets_at (λ n v at bs m. m.0)
    (exact_number lo hi) exact_octets_aligned

-- ---- bit strings

exact_aligned_bits : (n : ℕ) → Exact (SpellsAlignedBits n) (aligned_bits_at n)
unfolding aligned_bits_at
exact_aligned_bits n =
    exact_same (Bind IsPad (λ u. IsBits n)) (SpellsAlignedBits n) (λ s. align_at s >>= λ a. take_at n a.1) (aligned_bits_at n)
    (λ b at bs m. (m.5.1, rw (← m.4, ← m.5.0) m.3)) (λ b at bs m. (tt, pad at, b, m.1, refl, (refl, m.0))) (λ s. refl)
    (exact_bind IsPad (λ u. IsBits n) align_at (λ u s. take_at n s) exact_align (λ u. exact_take n))

bits_to : (c : Bool) (n : ℕ) (b : List Bool) (at : ℕ) (bs : List Bool) → Cond c (IsBits n) (SpellsAlignedBits n) b at bs
    → (length b ≡ n) × (bs ≡ cond c b (pad at ++ b))
bits_to true n b at bs m = (m.1, m.0)
bits_to false n b at bs m = m

bits_from : (c : Bool) (n : ℕ) (b : List Bool) (at : ℕ) (bs : List Bool) → (length b ≡ n) × (bs ≡ cond c b (pad at ++ b))
    → Cond c (IsBits n) (SpellsAlignedBits n) b at bs
bits_from true n b at bs m = (m.1, m.0)
bits_from false n b at bs m = m

exact_bits : (n : ℕ) → Exact (SpellsBits n) (bits_at n)
unfolding bits_at
exact_bits n =
    exact_same (Cond (ltb n 17) (IsBits n) (SpellsAlignedBits n)) (SpellsBits n)
    (λ s. cond (ltb n 17) (take_at n s) (aligned_bits_at n s)) (bits_at n) (bits_to (ltb n 17) n) (bits_from (ltb n 17) n)
    (λ s. refl)
    (exact_cond (ltb n 17) (IsBits n) (SpellsAlignedBits n) (take_at n) (aligned_bits_at n) (λ e. exact_take n)
    (λ e. exact_aligned_bits n))

exact_bits_between : (lo hi : ℕ) → Exact (Counted (SpellsNumber lo hi) SpellsAlignedBits) (bits_between_at lo hi)
unfolding bits_between_at
exact_bits_between lo hi =
    exact_counted (SpellsNumber lo hi) SpellsAlignedBits (number_at lo hi) aligned_bits_at (λ n v at bs m. m.0)
    (exact_number lo hi) exact_aligned_bits

-- ---- extension additions

abbrev Additions : List (List ℕ) → ℕ → List Bool → Type 0
Additions = Bind (SpellsClosed (SpellsNumber 0 63)) (λ more. Bind (IsBits (more + 1)) (λ flags. Each SpellsString (trues flags)))

additions_to : (oss : List (List ℕ)) (at : ℕ) (bs : List Bool) → Additions oss at bs → SpellsAdditions oss at bs
additions_to oss at bs m =
    let j = m.5 in
    let rest : m.2 ≡ j.0 ++ j.2 = j.3 ∙ ap (λ (l : List Bool). l ++ j.2) j.4.0 in (
      m.0,
      m.1,
      j.0,
      j.2,
      m.3 ∙ ap (λ (l : List Bool). m.1 ++ l) rest,
      m.4,
      j.4.1,
      j.5.0,
      subst (λ (l : List Bool). SpellsEach SpellsString oss (at + length m.1 + length l) j.2) j.4.0 j.5.1,
    )

additions_from : (oss : List (List ℕ)) (at : ℕ) (bs : List Bool) → SpellsAdditions oss at bs → Additions oss at bs
additions_from oss at bs m = (m.0, m.1, m.2 ++ m.3, m.4, m.5, (m.2, m.2, m.3, refl, (refl, m.6), (m.7, m.8)))

pub exact_additions : Exact SpellsAdditions additions_at
unfolding additions_at
exact_additions =
    exact_same Additions SpellsAdditions
    (λ s. small_number_at s >>= λ more. times bit_at (more.0 + 1) more.1
    >>= λ flags. times open_at (trues flags.0) flags.1) additions_at additions_to additions_from
    (λ s. refl)
    (exact_bind (SpellsClosed (SpellsNumber 0 63))
    (λ more. Bind (IsBits (more + 1)) (λ flags. Each SpellsString (trues flags))) small_number_at
    (λ more s. times bit_at (more + 1) s >>= λ flags. times open_at (trues flags.0) flags.1) exact_small_number
    (λ more. exact_bind (IsBits (more + 1)) (λ flags. Each SpellsString (trues flags)) (times bit_at (more + 1))
    (λ flags s. times open_at (trues flags) s) (exact_flags (more + 1))
    (λ flags. exact_times SpellsString open_at exact_string (trues flags))))

-- ---- a complete encoding

pub whole_takes : {A : Type 0} (S : A → ℕ → List Bool → Type 0) (r : Place → Result (A × Place) PerFault) → Exact S r
    → (os : List ℕ) (v : A) → whole_at r os ≡ Ok v → Whole S v os
unfolding whole_at
whole_takes {A} S r h os v e =
    let a = bind_ok (r (start os)) (λ x. end_at x.1 >>= λ u. okay x.0) v e in
    let b = bind_ok (end_at a.0.1) (λ u. okay a.0.0) v a.2 in
    let k = h.takes (start os) a.0.1 a.0.0 a.1 in
    let rest : a.0.1.rest ≡ pad (length k.taken) =
    exact_end a.0.1 b.0.1 b.0.0 b.1 ∙ ap pad k.at ∙ ap pad (zero-add (length k.taken)) in
    subst (λ (w : A). Whole S w os) (ok_is a.0.0 v b.2) (k.taken, k.parts ∙ ap (λ (l : List Bool). k.taken ++ l) rest, k.spelled)

pub whole_again : {A : Type 0} (S : A → ℕ → List Bool → Type 0) (r : Place → Result (A × Place) PerFault) → Exact S r
    → (os : List ℕ) (v : A) → Whole S v os → whole_at r os ≡ Ok v
unfolding whole_at
whole_again S r h os v m =
    let first = h.again v 0 m.0 (pad (length m.0)) m.2 in
    rw (m.1, first, zero-add (length m.0), end_again (length m.0)) refl

abbrev Within : {A : Type 0} (S : A → ℕ → List Bool → Type 0) → List ℕ → A → ℕ → List Bool → Type 0
Within S os v at bs = Whole S v os × (bs ≡ [])

exact_within : {A : Type 0} (S : A → ℕ → List Bool → Type 0) (r : Place → Result (A × Place) PerFault) → Exact S r → (os : List ℕ)
    → Exact (Within S os) (λ s. whole_at r os >>= λ v. Ok (v, s))
exact_within {A = A} S r h os = record {
  again = λ v at bs rest m. let n : at + length bs ≡ at = let len = ap length m.1 in omega (arith, len) in
      rw (whole_again S r h os v m.0, n, m.1) refl;
  takes = λ s t v e.
      let last : A × Place = (v, t) in
      let g : A → Result (A × Place) PerFault = λ v. Ok (v, s) in
      let a = bind_ok (whole_at r os) g last e in
      let made : A × Place = (a.0, s) in
      subst (λ (y : A × Place). Takes (Within S os) s y.0 y.1) (ok_is made last a.2)
      (record { taken = []; parts = refl; at = omega arith; spelled = (whole_takes S r h os a.0 a.1, refl) });
}

abbrev Inside : {A : Type 0} (S : A → ℕ → List Bool → Type 0) → A → ℕ → List Bool → Type 0
Inside S v at bs = (os : List ℕ) × SpellsString os at bs × Whole S v os

exact_inside : {A : Type 0} (S : A → ℕ → List Bool → Type 0) (r : Place → Result (A × Place) PerFault) → Exact S r
    → Exact (Inside S) (inside_at r)
exact_inside {A = A} S r h =
    exact_same (Bind SpellsString (Within S)) (Inside S) (λ s. open_at s >>= λ os. whole_at r os.0 >>= λ v. Ok (v, os.1))
    (inside_at r)
    (λ v at bs m. let ys : m.1
    ≡ bs =
    sym (m.3 ∙ ap (λ (l : List Bool). m.1 ++ l) m.5.1 ∙ append-nil m.1) in
    (m.0, subst (λ (l : List Bool). SpellsString m.0 at l) ys m.4, m.5.0))
    (λ v at bs m. (m.0, bs, [], sym (append-nil bs), m.1, (m.2, refl))) (λ s. refl)
    (exact_bind SpellsString (Within S) open_at (λ os s. whole_at r os >>= λ v. Ok (v, s)) exact_string (exact_within S r h))

-- ---- fields, and what may stand after them

abbrev AfterSkipped : {A B : Type 0} (S : A → ℕ → List Bool → Type 0) (b : Bool) (Q : B → ℕ → List Bool → Type 0) → A → ℕ → List Bool
    → Type 0
AfterSkipped S b Q v at bs = (ys : List Bool) × (zs : List Bool) × (bs ≡ ys ++ zs) × S v at ys × SpellsSkipped b Q (at + length ys) zs

exact_after_skipped : {A B : Type 0} (S : A → ℕ → List Bool → Type 0) (b : Bool) (Q : B → ℕ → List Bool → Type 0)
    (r : Place → Result (A × Place) PerFault) (q : Place → Result (B × Place) PerFault)
    → Exact S r → Exact Q q
    → Exact (AfterSkipped S b Q) (λ s. r s >>= λ v. skipped_at b q v.1 >>= λ more. Ok (v.0, more.1))
exact_after_skipped {A = A} {B = B} S b Q r q h k =
    exact_same (Bind S (λ v. Mapped (Unkept b Q) (λ u. v))) (AfterSkipped S b Q)
    (λ s. r s >>= λ v. skipped_at b q v.1 >>= λ more. Ok (v.0, more.1))
    (λ s. r s >>= λ v. skipped_at b q v.1 >>= λ more. Ok (v.0, more.1))
    (λ v at bs m. let j =
    mapped (Unkept b Q) (λ u. m.0) v (at + length m.1) m.2 m.5 in
    (m.1, m.2, m.3, subst (λ (w : A). S w at m.1) (sym j.1) m.4, j.2))
    (λ v at bs m. (v, m.0, m.1, m.2, m.3, to_mapped (Unkept b Q) (λ u. v) tt (at + length m.0) m.1 m.4)) (λ s. refl)
    (exact_bind S (λ v. Mapped (Unkept b Q) (λ u. v)) r (λ v s. skipped_at b q s >>= λ more. Ok (v, more.1)) h
    (λ v. exact_map (Unkept b Q) (λ u. v) (skipped_at b q) (exact_skipped b Q q k)))

plain_to : (fs : Fields) (v : Values fs) (at : ℕ) (bs : List Bool) → Bind (IsBits (optionals fs)) (SpellsFields fs) v at bs
    → Spells (plain fs) v at bs
plain_to fs v at bs m = (
  m.0,
  m.2,
  m.3 ∙ ap (λ (l : List Bool). l ++ m.2) m.4.0,
  m.4.1,
  subst (λ (l : List Bool). SpellsFields fs m.0 v (at + length l) m.2) m.4.0 m.5,
)

abbrev Extensible : (fs : Fields) → List Bool → Values fs → ℕ → List Bool → Type 0
Extensible fs flags = AfterSkipped (SpellsFields fs (flags_after flags)) (flag_of flags) SpellsAdditions

sequence_to : (fs : Fields) (v : Values fs) (at : ℕ) (bs : List Bool) → Bind (IsBits (suc (optionals fs))) (Extensible fs) v at bs
    → Spells (sequence fs) v at bs
sequence_to fs v at bs m =
    let k : Extensible fs m.0 v (at + length m.0) m.2 =
    subst (λ (l : List Bool). Extensible fs m.0 v (at + length l) m.2) m.4.0 m.5 in
    (m.0, k.0, k.1, m.3 ∙ ap (λ (l : List Bool). l ++ m.2) m.4.0 ∙ ap (λ (l : List Bool). m.0 ++ l) k.2, m.4.1, k.3, k.4)

-- ---- a number that is compared, or not

fixed_case : {A : Type 0} (b : Bool) (Q : A → ℕ → List Bool → Type 0) (v : A) (at : ℕ) (bs : List Bool) → Cond b Q Never v at bs
    → (b ≡ true) × Q v at bs
fixed_case true Q v at bs m = (refl, m)
fixed_case false Q v at bs m = absurd m

abbrev Fixed : {A : Type 0} (N : ℕ → ℕ → List Bool → Type 0) (n : ℕ) (Q : A → ℕ → List Bool → Type 0) → A → ℕ → List Bool → Type 0
Fixed N n Q v at bs = (xs : List Bool) × (ys : List Bool) × (bs ≡ xs ++ ys) × N n at xs × Q v (at + length xs) ys

exact_fixed : {A : Type 0} (N : ℕ → ℕ → List Bool → Type 0) (n : ℕ) (Q : A → ℕ → List Bool → Type 0)
    (r : Place → Result (ℕ × Place) PerFault) (q : Place → Result (A × Place) PerFault)
    → Exact N r → Exact Q q
    → Exact (Fixed N n Q) (λ s. r s >>= λ first. cond (eqb first.0 n) (q first.1) (Err Range))
exact_fixed {A = A} N n Q r q h k =
    exact_same (Bind N (λ i. Cond (eqb i n) Q Never)) (Fixed N n Q)
    (λ s. r s >>= λ first. cond (eqb first.0 n) (q first.1) (Err Range))
    (λ s. r s >>= λ first. cond (eqb first.0 n) (q first.1) (Err Range))
    (λ v at bs m. let j =
    fixed_case (eqb m.0 n) Q v (at + length m.1) m.2 m.5 in (m.1, m.2, m.3, subst (λ i. N i at m.1) (eqb-true _ _ j.0) m.4, j.1))
    (λ v at bs m. (n, m.0, m.1, m.2, m.3, yes_cond (eqb n n) Q Never v (at + length m.0) m.1 (eq-eqb n n refl) m.4)) (λ s. refl)
    (exact_bind N (λ i. Cond (eqb i n) Q Never) r (λ i s. cond (eqb i n) (q s) (Err Range)) h
    (λ i. exact_cond (eqb i n) Q Never q (λ s. Err Range) (λ e. k) (λ e. exact_err Range)))

-- ---- every format

mutual
  pub exact : (f : Format) → Exact (Spells f) (read_at f)
  exact (number lo hi) = exact_number lo hi
  exact (octets n) = exact_octets n
  exact (octets_between lo hi) = exact_between lo hi
  exact octet_string = exact_string
  exact (bit_string n) = exact_bits n
  exact (bits_between lo hi) = exact_bits_between lo hi
  exact (enumerated n) = exact_enumerated n
  exact (closed f) = exact_closed Range (Spells f) (read_at f) (exact f)
  exact (items lo hi f) =
      exact_same (Bind (SpellsNumber lo hi) (Each (Spells f))) (Spells (items lo hi f))
      (λ s. number_at lo hi s >>= λ n. times (read_at f) n.0 n.1) (read_at (items lo hi f))
      (λ vs at bs m. (m.1, m.2, m.3, subst (λ n. SpellsNumber lo hi n at m.1) (sym m.5.0) m.4, m.5.1))
      (λ vs at bs m. (length vs, m.0, m.1, m.2, m.3, (refl, m.4)))
      (λ s. refl)
      (exact_bind (SpellsNumber lo hi) (Each (Spells f)) (number_at lo hi) (λ n s. times (read_at f) n s) (exact_number lo hi)
      (λ n. exact_times (Spells f) (read_at f) (exact f) n))
  exact (open_type f) = exact_inside (Spells f) (read_at f) (exact f)
  exact (plain fs) =
      exact_same (Bind (IsBits (optionals fs)) (SpellsFields fs)) (Spells (plain fs))
      (λ s. times bit_at (optionals fs) s >>= λ flags. fields_at fs flags.0 flags.1) (read_at (plain fs))
      (plain_to fs) (λ v at bs m. (m.0, m.0, m.1, m.2, (refl, m.3), m.4)) (λ s. refl)
      (exact_bind (IsBits (optionals fs)) (SpellsFields fs) (times bit_at (optionals fs)) (fields_at fs)
      (exact_flags (optionals fs)) (exact_fields fs))
  exact (sequence fs) =
      exact_same (Bind (IsBits (suc (optionals fs))) (Extensible fs)) (Spells (sequence fs)) (read_at (sequence fs))
      (read_at (sequence fs))
      (sequence_to fs) (λ v at bs m. (m.0, m.0, m.1 ++ m.2, m.3, (refl, m.4), (m.1, m.2, refl, m.5, m.6))) (λ s. refl)
      (exact_bind (IsBits (suc (optionals fs))) (Extensible fs) (times bit_at (suc (optionals fs)))
      (λ flags s. fields_at fs (flags_after flags) s >>= λ v. skipped_at (flag_of flags) additions_at v.1
      >>= λ more. Ok (v.0, more.1))
      (exact_flags (suc (optionals fs)))
      (λ flags. exact_after_skipped (SpellsFields fs (flags_after flags)) (flag_of flags) SpellsAdditions
      (fields_at fs (flags_after flags)) additions_at (exact_fields fs (flags_after flags)) exact_additions))
  exact (choice alts) =
      exact_bind (SpellsClosed (SpellsNumber 0 (alternatives alts - 1))) (SpellsChosen alts)
      (closed_at Alternative (number_at 0 (alternatives alts - 1))) (chosen_at alts)
      (exact_closed Alternative (SpellsNumber 0 (alternatives alts - 1)) (number_at 0 (alternatives alts - 1))
      (exact_number 0 (alternatives alts - 1)))
      (exact_chosen alts)

  pub exact_fields : (fs : Fields) (flags : List Bool) → Exact (SpellsFields fs flags) (fields_at fs flags)
  exact_fields done flags =
      exact_same (Nothing tt) (SpellsFields done flags) (λ s. Ok (tt, s)) (fields_at done flags) (λ u at bs m. m.1)
      (λ u at bs m. (refl, m)) (λ s. refl) (exact_ok tt)
  exact_fields (must f fs) flags =
      exact_pair (Spells f) (SpellsFields fs flags) (read_at f) (fields_at fs flags) (exact f) (exact_fields fs flags)
  exact_fields (may f fs) flags =
      exact_pair (SpellsOptional (flag_of flags) (Spells f)) (SpellsFields fs (flags_after flags))
      (optional_at (flag_of flags) (read_at f)) (fields_at fs (flags_after flags))
      (exact_optional (flag_of flags) (Spells f) (read_at f) (exact f)) (exact_fields fs (flags_after flags))
  exact_fields (skip f fs) flags =
      exact_same (After (Unkept (flag_of flags) (Spells f)) (SpellsFields fs (flags_after flags))) (SpellsFields (skip f fs) flags)
      (λ s. skipped_at (flag_of flags) (read_at f) s >>= λ x. fields_at fs (flags_after flags) x.1) (fields_at (skip f fs) flags)
      (λ v at bs m. (m.1, m.2, m.3, m.4, m.5)) (λ v at bs m. (tt, m.0, m.1, m.2, m.3, m.4)) (λ s. refl)
      (exact_bind (Unkept (flag_of flags) (Spells f)) (λ u. SpellsFields fs (flags_after flags))
      (skipped_at (flag_of flags) (read_at f)) (λ u s. fields_at fs (flags_after flags) s)
      (exact_skipped (flag_of flags) (Spells f) (read_at f) (exact f)) (λ u. exact_fields fs (flags_after flags)))
  exact_fields (fixed lo hi n fs) flags =
      exact_fixed (SpellsNumber lo hi) n (SpellsFields fs flags) (number_at lo hi) (fields_at fs flags) (exact_number lo hi)
      (exact_fields fs flags)
  exact_fields (marked lo hi n fs) flags =
      exact_bind (SpellsNumber lo hi) (λ any. SpellsFields fs flags) (number_at lo hi) (λ any s. fields_at fs flags s)
      (exact_number lo hi) (λ any. exact_fields fs flags)

  pub exact_chosen : (alts : Alternatives) (i : ℕ) → Exact (SpellsChosen alts i) (chosen_at alts i)
  exact_chosen (last f) zero =
      exact_same (Spells f) (SpellsChosen (last f) zero) (read_at f) (chosen_at (last f) zero) (λ v at bs m. (refl, m))
      (λ v at bs m. m.1) (λ s. refl) (exact f)
  exact_chosen (last f) (suc i) =
      exact_same {A = Value f} Never (SpellsChosen (last f) (suc i)) (λ s. Err Range) (chosen_at (last f) (suc i))
      (λ v at bs m. absurd m) (λ v at bs m. let e = m.0 in omega (arith, e)) (λ s. refl) (exact_err Range)
  exact_chosen (either f alts) zero =
      exact_same (Mapped (Spells f) left_of) (SpellsChosen (either f alts) zero) (λ s. read_at f s >>= λ x. Ok (left_of x.0, x.1))
      (chosen_at (either f alts) zero)
      (left_to (Spells f)) (left_from (Spells f)) (λ s. refl) (exact_map (Spells f) left_of (read_at f) (exact f))
  exact_chosen (either f alts) (suc i) =
      exact_same (Mapped (SpellsChosen alts i) right_of) (SpellsChosen (either f alts) (suc i))
      (λ s. chosen_at alts i s >>= λ x. Ok (right_of x.0, x.1)) (chosen_at (either f alts) (suc i))
      (right_to (SpellsChosen alts i)) (right_from (SpellsChosen alts i)) (λ s. refl)
      (exact_map (SpellsChosen alts i) right_of (chosen_at alts i) (exact_chosen alts i))

-- ---- complete encodings

pub complete_takes : (f : Format) (os : List ℕ) (v : Value f) → complete_at f os ≡ Ok v → SpellsWhole f v os
complete_takes f os v e = whole_takes (Spells f) (read_at f) (exact f) os v e

pub complete_again : (f : Format) (os : List ℕ) (v : Value f) → SpellsWhole f v os → complete_at f os ≡ Ok v
complete_again f os v m = whole_again (Spells f) (read_at f) (exact f) os v m

-- octets spell at most one value
pub one_value : (f : Format) (os : List ℕ) (v w : Value f) → SpellsWhole f v os → SpellsWhole f w os → v ≡ w
one_value f os v w p q = ok_is v w (sym (complete_again f os v p) ∙ complete_again f os w q)
