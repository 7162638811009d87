-- Octets one after the other are the octets at once.
use Rattle.std.proofs.Common.{◌≡◌, ℕ, zero, suc, ◌-◌, ◌+◌, ◌*◌, ◌/◌, ◌^◌, ◌%◌, ◌<◌, ◌≤◌, Bool, true, false, cond, ltb, eqb, ◌&&◌, List, [], ◌∷◌, ◌++◌, length, take, drop, Result, Ok, Err, refl, sym, ap, subst, ◌∙◌, append_assoc, arith, inl, inr}
use Rattle.std.proofs.lemmas.Bool.{lt-ltb, le-ltb, cases_lt, ltb-false, eq-eqb, and_from}
use Rattle.per_streams.specs.Octet.{all_below}
use Rattle.std.proofs.lemmas.List.{length-drop, drop-take, drop-drop, take-take, length-take-le, length-append, length-replicate, append-nil, take-append-drop}
use Rattle.per_streams.specs.declared.fault.PerFault.{PerFault}
use Rattle.per_streams.specs.declared.fault.PerFault.TheVariants.{Truncated}
use Rattle.per_streams.specs.Bits.{padded, bits, octet_bits, padding, pad, value, Place, ◌>>=◌, take_at, bit_at, first_bit, number_bits_at, whole_octets_at, octets_of_bits, IsBytes, aligned_bits_at, align_at, aligned_octets_at}
use Rattle.per_streams.specs.Each.{times}
use Rattle.per_streams.specs.Exact.{exact_take}
use Rattle.per_streams.specs.OctetLaws.{exact_whole_octets}
use Rattle.per_streams.specs.PartLaws.{taken, short, bits-split, front_part}
use Rattle.per_streams.specs.Times.{with_front}
use Rattle.per_streams.specs.BitLaws.{bind_ok, unless_ok, okay, ok_is, value_below, bits-value, length-bits, length-octet_bits, octets-back}

abbrev More : ℕ → Place → Result (List ℕ × Place) PerFault
More n s = number_bits_at 8 s >>= λ x. whole_octets_at n x.1 >>= λ y. Ok (x.0 ∷ y.0, y.1)

whole_more : (n : ℕ) (s : Place) → whole_octets_at (suc n) s ≡ More n s
unfolding whole_octets_at octets_of_bits
whole_more n s =
    elim (cases_lt (length s.rest) 8) [
      | inl few ↦ rw (short 8 s few, short (8 * suc n) s (omega (arith, few))) refl
      | inr some ↦ elim (cases_lt (length s.rest) (8 * suc n)) [
        | inl less ↦
            let t : Place = record { at = s.at + 8; rest = drop 8 s.rest } in
            rw (short (8 * suc n) s less, taken 8 s some, short (8 * n) t (omega (arith, less, length-drop 8 s.rest))) refl
        | inr all ↦
            let t : Place = record { at = s.at + 8; rest = drop 8 s.rest } in
            let sum : 8 * suc n ≡ 8 + 8 * n = omega arith in
            let left : drop 8 (take (8 * suc n) s.rest) ≡ take (8 * n) (drop 8 s.rest) =
            ap (λ k. drop 8 (take k s.rest)) sum ∙ drop-take 8 (8 * n) s.rest in
            let after : drop (8 * n) (drop 8 s.rest) ≡ drop (8 * suc n) s.rest =
            drop-drop (8 * n) 8 s.rest ∙ ap (λ k. drop k s.rest) (sym sum) in
            let place : s.at + 8 + 8 * n ≡ s.at + 8 * suc n = omega arith in
            rw (
              taken (8 * suc n) s all,
              taken 8 s some,
              taken (8 * n) t (omega (arith, all, length-drop 8 s.rest)),
              take-take 8 (8 * suc n) s.rest (omega arith),
              left,
              after,
              place,
            ) refl
      ]
    ]

whole_none : (s : Place) → whole_octets_at 0 s ≡ Ok ([], s)
unfolding whole_octets_at octets_of_bits
whole_none s = let z : s.at + 0 ≡ s.at = omega arith in rw (taken 0 s (omega arith), z) refl

same_step : (n : ℕ) (q : Place → Result (List ℕ × Place) PerFault) (x : ℕ × Place) → whole_octets_at n x.1 ≡ q x.1
    → (whole_octets_at n x.1 >>= λ y. okay {A = List ℕ × Place} (x.0 ∷ y.0, y.1))
    ≡ (q x.1 >>= λ y. okay {A = List ℕ × Place} (x.0 ∷ y.0, y.1))
same_step n q x e = rw e refl

same_after : (n : ℕ) (q : Place → Result (List ℕ × Place) PerFault) (r : Result (ℕ × Place) PerFault)
    → ((t : Place) → whole_octets_at n t ≡ q t)
    → (r >>= λ x. whole_octets_at n x.1 >>= λ y. okay {A = List ℕ × Place} (x.0 ∷ y.0, y.1))
    ≡ (r >>= λ x. q x.1 >>= λ y. okay {A = List ℕ × Place} (x.0 ∷ y.0, y.1))
same_after n q (Ok x) h = same_step n q x (h x.1)
same_after n q (Err f) h = refl

pub whole_is : (n : ℕ) (s : Place) → whole_octets_at n s ≡ times (number_bits_at 8) n s
unfolding times
whole_is zero s = whole_none s
whole_is (suc n) s = whole_more n s ∙ same_after n (times (number_bits_at 8) n) (number_bits_at 8 s) (whole_is n)

pub ends_fault : {A : Type 0} (r : Place → Result (A × Place) PerFault) (f : PerFault) (front : List A) (count i : ℕ) (s : Place)
    (total : Result (List A × Place) PerFault)
    → i < count → r s ≡ Err f
    → with_front front (times r (count - i) s) ≡ total → total ≡ Err f
unfolding times
ends_fault r f front count i s total lt h so_far =
    let k : count - i ≡ suc (count - (i + 1)) = omega arith in
    let one : with_front front (times r (count - i) s) ≡ Err f = rw (k, h) refl in
    sym so_far ∙ one

-- how many bits are left, where some octets were begun
pub bits_left : (octets : List ℕ) (begun left current : ℕ)
    → length (bits left current ++ octet_bits (drop begun octets)) ≡ left + 8 * (length octets - begun)
bits_left octets begun left current =
    omega (
      arith,
      length-append (bits left current) (octet_bits (drop begun octets)),
      length-bits left current,
      length-octet_bits (drop begun octets),
      length-drop begun octets,
    )

-- octets of which too few are left
pub too_few : (n : ℕ) (s : Place) → length s.rest < 8 * n → whole_octets_at n s ≡ Err Truncated
unfolding whole_octets_at
too_few n s few = rw (short (8 * n) s few) refl

-- a number of which all bits are left
pub all_there : (k : ℕ) (s : Place) (f : PerFault) → k ≤ length s.rest → number_bits_at k s ≡ Err f → ⊥
all_there k s f room e = let read = rw (taken k s room) at e in absurd cc

pub left_after : (k : ℕ) (s : Place) (n : ℕ) (t : Place) → k ≤ length s.rest → number_bits_at k s ≡ Ok (n, t)
    → length t.rest ≡ length s.rest - k
left_after k s n t room e =
    let last : ℕ × Place = (n, t) in
    let made : ℕ × Place = (value (take k s.rest), record { at = s.at + k; rest = drop k s.rest }) in
    let same : okay made ≡ okay last = rw (taken k s room) at e in
    sym (ap (λ (x : ℕ × Place). length x.1.rest) (ok_is made last same)) ∙ length-drop k s.rest

pub bits_below : (k : ℕ) (s : Place) (n : ℕ) (t : Place) → number_bits_at k s ≡ Ok (n, t) → n < 2 ^ k
unfolding take_at
bits_below k s n t e =
    let last : ℕ × Place = (n, t) in
    let u : List Bool × Place = (take k s.rest, record { at = s.at + k; rest = drop k s.rest }) in
    let a = bind_ok (cond (ltb (length s.rest) k) (Err Truncated) (okay u)) (λ x. okay {A = ℕ × Place} (value x.0, x.1)) last e in
    let b = unless_ok (ltb (length s.rest) k) Truncated u a.0 a.1 in
    let len : length a.0.0 ≡ k =
    ap (λ (x : List Bool × Place). length x.0) (sym b.1) ∙ length-take-le k s.rest (ltb-false _ _ b.0) in
    let v : value a.0.0 ≡ n = ap (λ (x : ℕ × Place). x.0) (ok_is {A = ℕ × Place} (value a.0.0, a.0.1) last a.2) in
    let below = value_below a.0.0 in
    subst (λ m. m < 2 ^ k) v (subst (λ m. value a.0.0 < 2 ^ m) len below)

pub bytes-below : (os : List ℕ) → IsBytes os → all_below 256 os ≡ true
bytes-below [] h = refl
bytes-below (x ∷ xs) h = and_from _ _ (lt-ltb x 256 (h 0)) (bytes-below xs (λ i. h (suc i)))

pub octets_fit : (n : ℕ) (os : List ℕ) → length os ≡ n → IsBytes os → (eqb (length os) n && all_below 256 os) ≡ true
octets_fit n os e h = and_from _ _ (eq-eqb (length os) n e) (bytes-below os h)

-- bits as a number
pub field_ok : (k : ℕ) (s : Place) (n : ℕ) (t : Place) → number_bits_at k s ≡ Ok (n, t) → take_at k s ≡ Ok (bits k n, t)
unfolding take_at
field_ok k s n t e =
    let last : ℕ × Place = (n, t) in
    let u : List Bool × Place = (take k s.rest, record { at = s.at + k; rest = drop k s.rest }) in
    let a = bind_ok (cond (ltb (length s.rest) k) (Err Truncated) (okay u)) (λ x. okay {A = ℕ × Place} (value x.0, x.1)) last e in
    let b = unless_ok (ltb (length s.rest) k) Truncated u a.0 a.1 in
    let len : length a.0.0 ≡ k =
    ap (λ (x : List Bool × Place). length x.0) (sym b.1) ∙ length-take-le k s.rest (ltb-false _ _ b.0) in
    let both = ok_is {A = ℕ × Place} (value a.0.0, a.0.1) last a.2 in
    let v : value a.0.0 ≡ n = ap (λ (x : ℕ × Place). x.0) both in
    let w : a.0.1 ≡ t = ap (λ (x : ℕ × Place). x.1) both in
    let text : a.0.0 ≡ bits k n = sym (bits-value a.0.0) ∙ ap (λ j. bits j (value a.0.0)) len ∙ ap (bits k) v in
    a.1 ∙ ap (λ (x : List Bool). okay {A = List Bool × Place} (x, a.0.1)) text
    ∙ ap (λ (x : Place). okay {A = List Bool × Place} (bits k n, x)) w

bind_err : {A B : Type 0} (r : Result A PerFault) (g : A → B) (f : PerFault) → (r >>= λ x. okay (g x)) ≡ Err f → r ≡ Err f
bind_err (Ok x) g f e = absurd cc
bind_err (Err d) g f e = let k : d ≡ f = cc in ap (λ y. Err y) k

pub field_err : (k : ℕ) (s : Place) (f : PerFault) → number_bits_at k s ≡ Err f → take_at k s ≡ Err f
field_err k s f e = bind_err (take_at k s) (λ (x : List Bool × Place). (value x.0, x.1)) f e

-- a writer at its end
pub finished : (octets : List ℕ) (used current : ℕ) (old : List Bool) → used < 8 → IsBytes octets
    → octet_bits octets ++ bits used current ≡ old ++ pad (length old) → octets ≡ padded old
unfolding padded bits
finished octets used current old lt h e =
    let len = ap length e in
    let all : 8 * length octets + used ≡ length old + padding (length old) =
    omega (
      arith,
      len,
      length-append (octet_bits octets) (bits used current),
      length-octet_bits octets,
      length-bits used current,
      length-append old (pad (length old)),
      length-replicate (padding (length old)) false,
    ) in
    let none : used ≡ 0 = omega (arith, all, lt) in
    let many : (length old + 7) / 8 ≡ length octets = omega (arith, all, lt) in
    let text : octet_bits octets ≡ old ++ pad (length old) =
    sym (append-nil (octet_bits octets)) ∙ ap (λ j. octet_bits octets ++ bits j current) (sym none) ∙ e in
    sym (octets-back octets h) ∙ ap (octets_of_bits (length octets)) text
    ∙ ap (λ j. octets_of_bits j (old ++ pad (length old))) (sym many)

pub field_length : (w n : ℕ) → eqb (length (bits w n)) w ≡ true
field_length w n = eq-eqb _ w (length-bits w n)

-- ---- bits one after the other are the bits at once

first_of_bits : (n at : ℕ) (rest : List Bool)
    → take_at (suc n) (record { at = at; rest = rest })
    ≡ (first_bit at rest >>= λ x. take_at n x.1 >>= λ y. okay {A = List Bool × Place} (x.0 ∷ y.0, y.1))
first_of_bits n at [] = rw (short (suc n) (record { at = at; rest = [] }) (omega arith)) refl
first_of_bits n at (b ∷ bs) = elim (cases_lt (length bs) n) [
  | inl few ↦
      rw (
        short (suc n) (record { at = at; rest = b ∷ bs }) (omega (arith, few)),
        short n (record { at = at + 1; rest = bs }) few,
      ) refl
  | inr all ↦
      let place : at + 1 + n ≡ at + suc n = omega arith in
      rw (
        taken (suc n) (record { at = at; rest = b ∷ bs }) (omega (arith, all)),
        taken n (record { at = at + 1; rest = bs }) all,
        place,
      ) refl
]

bits_after : (n : ℕ) (r : Result (Bool × Place) PerFault) → ((t : Place) → take_at n t ≡ times bit_at n t)
    → (r >>= λ x. take_at n x.1 >>= λ y. okay {A = List Bool × Place} (x.0 ∷ y.0, y.1))
    ≡ (r >>= λ x. times bit_at n x.1 >>= λ y. okay {A = List Bool × Place} (x.0 ∷ y.0, y.1))
bits_after n (Ok x) h = rw (h x.1) refl
bits_after n (Err f) h = refl

one_bit : (n : ℕ) (s : Place)
    → take_at (suc n) s ≡ (bit_at s >>= λ x. take_at n x.1 >>= λ y. okay {A = List Bool × Place} (x.0 ∷ y.0, y.1))
one_bit n s = first_of_bits n s.at s.rest

pub bits_are : (n : ℕ) (s : Place) → take_at n s ≡ times bit_at n s
unfolding times
bits_are zero s = let z : s.at + 0 ≡ s.at = omega arith in rw (taken 0 s (omega arith), z) refl
bits_are (suc n) s = one_bit n s ∙ bits_after n (bit_at s) (bits_are n)

-- ---- octets, and some bits after them

octets_taken : (q : ℕ) (s t : Place) (os : List ℕ) → whole_octets_at q s ≡ Ok (os, t)
    → (take_at (8 * q) s ≡ Ok (octet_bits os, t)) × (length os ≡ q)
octets_taken q s t os e =
    let k = (exact_whole_octets q).takes s t os e in
    let m = (exact_take (8 * q)).again (octet_bits os) s.at k.taken t.rest
    (k.spelled.2, (let l = k.spelled.0 in omega (arith, l, length-octet_bits os))) in
    let from : s ≡ record { at = s.at; rest = k.taken ++ t.rest } =
    ap (λ (l : List Bool). record { at = s.at; rest = l }) k.parts in
    let to : record { at = s.at + length k.taken; rest = t.rest } ≡ t = ap (λ n. record { at = n; rest = t.rest }) (sym k.at) in
    (ap (take_at (8 * q)) from ∙ m ∙ ap (λ (p : Place). okay {A = List Bool × Place} (octet_bits os, p)) to, k.spelled.0)

octets_failed : (q : ℕ) (s : Place) (f : PerFault) → whole_octets_at q s ≡ Err f → take_at (8 * q) s ≡ Err f
unfolding whole_octets_at
octets_failed q s f e = bind_err (take_at (8 * q) s) (λ (x : List Bool × Place). (octets_of_bits q x.0, x.1)) f e

take-parts : (a b : ℕ) (s : Place)
    → take_at (a + b) s ≡ (take_at a s >>= λ x. take_at b x.1 >>= λ y. okay {A = List Bool × Place} (x.0 ++ y.0, y.1))
take-parts a b s =
    elim (cases_lt (length s.rest) a) [
      | inl few ↦ rw (short a s few, short (a + b) s (omega (arith, few))) refl
      | inr some ↦ elim (cases_lt (length s.rest) (a + b)) [
        | inl less ↦
            let t : Place = record { at = s.at + a; rest = drop a s.rest } in
            rw (short (a + b) s less, taken a s some, short b t (omega (arith, less, length-drop a s.rest))) refl
        | inr all ↦
            let t : Place = record { at = s.at + a; rest = drop a s.rest } in
            let front : take a (take (a + b) s.rest) ≡ take a s.rest = take-take a (a + b) s.rest (omega arith) in
            let left : drop a (take (a + b) s.rest) ≡ take b (drop a s.rest) = drop-take a b s.rest in
            let whole : take (a + b) s.rest ≡ take a s.rest ++ take b (drop a s.rest) =
            sym (take-append-drop a (take (a + b) s.rest)) ∙ rw (front, left) refl in
            let after : drop b (drop a s.rest) ≡ drop (a + b) s.rest = drop-drop b a s.rest in
            let place : s.at + a + b ≡ s.at + (a + b) = omega arith in
            rw (taken (a + b) s all, taken a s some, taken b t (omega (arith, all, length-drop a s.rest)), after, place, whole) refl
      ]
    ]

pub string_read : (q r n : ℕ) (s t u : Place) (os : List ℕ) → aligned_octets_at q s ≡ Ok (os, t) → number_bits_at r t ≡ Ok (n, u)
    → (aligned_bits_at (8 * q + r) s ≡ Ok (octet_bits os ++ bits r n, u)) × (length os ≡ q)
unfolding aligned_bits_at aligned_octets_at
string_read q r n s t u os e k =
    let last : List ℕ × Place = (os, t) in
    let a = bind_ok (align_at s) (λ a. whole_octets_at q a.1) last e in
    let o = octets_taken q a.0.1 t os a.2 in
    (rw (a.1, take-parts (8 * q) r a.0.1, o.0, field_ok r t n u k) refl, o.1)

fails_after_align : (q r : ℕ) (f : PerFault) (a : Result (Unit {0} × Place) PerFault) → (a >>= λ x. whole_octets_at q x.1) ≡ Err f
    → (a >>= λ x. take_at (8 * q + r) x.1) ≡ Err f
fails_after_align q r f (Ok x) e = rw (take-parts (8 * q) r x.1, octets_failed q x.1 f e) refl
fails_after_align q r f (Err g) e = let k : g ≡ f = cc in ap (λ y. Err y) k

pub string_no_octets : (q r : ℕ) (s : Place) (f : PerFault) → aligned_octets_at q s ≡ Err f → aligned_bits_at (8 * q + r) s ≡ Err f
unfolding aligned_bits_at aligned_octets_at
string_no_octets q r s f e = fails_after_align q r f (align_at s) e

pub string_no_bits : (q r : ℕ) (s t : Place) (os : List ℕ) (f : PerFault) → aligned_octets_at q s ≡ Ok (os, t)
    → number_bits_at r t ≡ Err f → aligned_bits_at (8 * q + r) s ≡ Err f
unfolding aligned_bits_at aligned_octets_at
string_no_bits q r s t os f e k =
    let last : List ℕ × Place = (os, t) in
    let a = bind_ok (align_at s) (λ a. whole_octets_at q a.1) last e in
    let o = octets_taken q a.0.1 t os a.2 in
    rw (a.1, take-parts (8 * q) r a.0.1, o.0, field_err r t f k) refl

pub length-string : (os : List ℕ) (more last : ℕ) → length (octet_bits os ++ bits more last) ≡ 8 * length os + more
length-string os more last =
    omega (arith, length-append (octet_bits os) (bits more last), length-octet_bits os, length-bits more last)

pub no_bits_more : (os : List ℕ) (more last : ℕ) → more ≡ 0 → octet_bits os ≡ octet_bits os ++ bits more last
unfolding bits
no_bits_more os more last e = rw e (sym (append-nil (octet_bits os)))

-- ---- bits, eight at a time

in_front : (front some : List Bool) (read : Result (List Bool × Place) PerFault)
    → with_front front (read >>= λ x. okay {A = List Bool × Place} (some ++ x.0, x.1)) ≡ with_front (front ++ some) read
in_front front some (Ok x) = ap (λ (l : List Bool). okay {A = List Bool × Place} (l, x.1)) (sym (append_assoc front some x.0))
in_front front some (Err f) = refl

pub eight_read : (front : List Bool) (left octet : ℕ) (s t : Place) (total : Result (List Bool × Place) PerFault) → 8 ≤ left
    → number_bits_at 8 s ≡ Ok (octet, t)
    → with_front front (take_at left s) ≡ total → with_front (front ++ bits 8 octet) (take_at (left - 8) t) ≡ total
eight_read front left octet s t total le e so_far =
    let sum : 8 + (left - 8) ≡ left = omega arith in
    let parts : take_at left s ≡ (take_at (left - 8) t >>= λ y. okay {A = List Bool × Place} (bits 8 octet ++ y.0, y.1)) =
    ap (λ k. take_at k s) (sym sum) ∙ take-parts 8 (left - 8) s ∙ rw (field_ok 8 s octet t e) refl in
    sym (in_front front (bits 8 octet) (take_at (left - 8) t)) ∙ ap (with_front front) (sym parts) ∙ so_far

pub eight_fault : (front : List Bool) (left : ℕ) (s : Place) (f : PerFault) (total : Result (List Bool × Place) PerFault) → 8 ≤ left
    → number_bits_at 8 s ≡ Err f
    → with_front front (take_at left s) ≡ total → total ≡ Err f
eight_fault front left s f total le e so_far =
    let sum : 8 + (left - 8) ≡ left = omega arith in
    let none : take_at left s ≡ Err f = ap (λ k. take_at k s) (sym sum) ∙ take-parts 8 (left - 8) s ∙ rw (field_err 8 s f e) refl in
    sym so_far ∙ ap (with_front front) none

-- ---- octets from an octet on

pub whole_here : (n : ℕ) (s : Place) → s.at % 8 ≡ 0 → aligned_octets_at n s ≡ whole_octets_at n s
unfolding aligned_octets_at align_at take_at value
whole_here n s e =
    let none : padding s.at ≡ 0 = omega arith in
    let at : s.at + 0 ≡ s.at = omega arith in
    rw (none, le-ltb (length s.rest) 0 (omega arith), at) refl

-- ---- a number in whole octets, and the last bits of it left

pub octets_number : (q : ℕ) (s t : Place) (os : List ℕ) → whole_octets_at q s ≡ Ok (os, t)
    → number_bits_at (8 * q) s ≡ Ok (value (octet_bits os), t)
octets_number q s t os e = rw (octets_taken q s t os e).0 refl

taken_err : (k : ℕ) (s : Place) (f : PerFault) → take_at k s ≡ Err f → (length s.rest < k) × (f ≡ Truncated)
taken_err k s f e = elim (cases_lt (length s.rest) k) [
  | inl few ↦ (few, let both = rw (short k s few) at e in cc)
  | inr room ↦ let read = rw (taken k s room) at e in absurd cc
]

pub octets_no_number : (q : ℕ) (s : Place) (f : PerFault) → whole_octets_at q s ≡ Err f → number_bits_at (8 * q) s ≡ Err f
octets_no_number q s f e = rw (octets_failed q s f e) refl

-- octets are left, but too few for some bits
pub octets_short : (count : ℕ) (s : Place) (f : PerFault) → length s.rest % 8 ≡ 0 → number_bits_at (8 * ((count + 7) / 8)) s ≡ Err f
    → number_bits_at count s ≡ Err f
octets_short count s f whole e =
    let octets : ℕ = (count + 7) / 8 in
    let k = taken_err (8 * octets) s f (field_err (8 * octets) s f e) in
    let few = k.0 in
    rw (short count s (omega (arith, whole, few)), k.1) refl

-- where a number ends
pub number_ends : (k n : ℕ) (s t : Place) → number_bits_at k s ≡ Ok (n, t) → t.at ≡ s.at + k
number_ends k n s t e =
    let took = (exact_take k).takes s t (bits k n) (field_ok k s n t e) in
    let size = ap length took.spelled.0 in
    let at = took.at in
    omega (arith, at, size, length-bits k n)

pub left_back : (whole count n : ℕ) (s t : Place) → count ≤ whole → number_bits_at whole s ≡ Ok (n, t)
    → number_bits_at count s
    ≡ Ok (
      n / 2 ^ (whole - count),
      record { at = t.at - (whole - count); rest = bits (whole - count) (n % 2 ^ (whole - count)) ++ t.rest },
    )
left_back whole count n s t le e =
    let more : ℕ = whole - count in
    let took = (exact_take whole).takes s t (bits whole n) (field_ok whole s n t e) in
    let split = bits-split whole count n le (bits_below whole s n t e) in
    let high : List Bool = bits count (n / 2 ^ more) in
    let low : List Bool = bits more (n % 2 ^ more) in
    let text : s.rest ≡ high ++ (low ++ t.rest) =
    took.parts ∙ ap (λ (l : List Bool). l ++ t.rest) (took.spelled.0 ∙ split.0) ∙ append_assoc high low t.rest in
    let size = ap length took.spelled.0 in
    let at = took.at in
    let place : s.at + count ≡ t.at - more = omega (arith, at, size, length-bits whole n, le) in
    front_part count (n / 2 ^ more) s.at (t.at - more) s.rest (low ++ t.rest) split.1 text place
