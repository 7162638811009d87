-- Laws of bits and numbers.
use Rattle.std.proofs.Common.{◌≡◌, ℕ, zero, suc, ◌+◌, ◌-◌, ◌*◌, ◌^◌, ◌%◌, ◌<◌, ◌≤◌, Bool, true, false, cond, leb, ltb, eqb, List, [], ◌∷◌, ◌++◌, length, take, drop, get_or, replicate, Result, Ok, Err, refl, sym, ap, subst, ◌∙◌, arith, add-one, append_assoc, inl, inr}
use Rattle.std.proofs.lemmas.Bool.{le-leb, lt-leb, lt-ltb, le-ltb, eq-eqb, ne_eqb, cond-true, cond-false, cases_lt, cases_eq}
use Rattle.std.proofs.lemmas.List.{length-append, length-take, length-drop, drop_all, take-append-drop, drop-drop, append-nil, flat_map_more, drop_more, get_or-take, get_or-drop, get_or_past, length-take-le}
use Rattle.std.proofs.lemmas.Grind.{flat_map-append}
use native.Mathlib.Nat.{sub-zero}
use Rattle.std.proofs.lemmas.List.{take_at as take_front, drop_at as drop_front}
use Rattle.std.proofs.lemmas.Nat.{pow_pos}
use Rattle.std.proofs.Math.Nat.{pow-succ'}
use mir.Val.{bool_byte}
use Rattle.per_streams.specs.declared.fault.PerFault.{PerFault}
use Rattle.per_streams.specs.declared.fault.PerFault.TheVariants.{Truncated, Padding}
use Rattle.per_streams.specs.Bits.{value, bits, octet_bits, octets_of_bits, whole_octets_at, Place, padding, pad, ◌>>=◌, take_at, align_at, bit_at, first_bit, number_bits_at, IsBytes}

double : (n : ℕ) → 2 ^ suc n ≡ 2 * 2 ^ n
double n = pow-succ' 2 n

pub value_below : (xs : List Bool) → value xs < 2 ^ length xs
unfolding value
value_below [] = omega arith
value_below (true ∷ xs) = let ih = value_below xs in omega (arith, ih, double (length xs))
value_below (false ∷ xs) = let ih = value_below xs in omega (arith, ih, double (length xs))

length-cond : (b : Bool) (xs ys : List Bool) (n : ℕ) → length xs ≡ n → length ys ≡ n → length (cond b xs ys) ≡ n
length-cond true xs ys n p q = p
length-cond false xs ys n p q = q

pub length-bits : (w n : ℕ) → length (bits w n) ≡ w
unfolding bits
length-bits zero n = refl
length-bits (suc w) n =
    length-cond (leb (2 ^ w) n) (true ∷ bits w (n - 2 ^ w)) (false ∷ bits w n) (suc w) (ap suc (length-bits w (n - 2 ^ w)))
    (ap suc (length-bits w n))

pub bits-value : (xs : List Bool) → bits (length xs) (value xs) ≡ xs
unfolding value bits
bits-value [] = refl
bits-value (true ∷ xs) =
    rw (le-leb (2 ^ length xs) (2 ^ length xs + value xs) (omega arith))
    (let e : 2 ^ length xs + value xs - 2 ^ length xs ≡ value xs = omega arith in
    rw e (ap (λ (t : List Bool). true ∷ t) (bits-value xs)))
bits-value (false ∷ xs) =
    rw (lt-leb (2 ^ length xs) (value xs) (value_below xs)) (ap (λ (t : List Bool). false ∷ t) (bits-value xs))

bits-low : (w n : ℕ) → n < 2 ^ w → bits (suc w) n ≡ false ∷ bits w n
unfolding bits
bits-low w n lt = cond-false (leb (2 ^ w) n) (true ∷ bits w (n - 2 ^ w)) (false ∷ bits w n) (lt-leb (2 ^ w) n lt)

bits-high : (w n : ℕ) → 2 ^ w ≤ n → bits (suc w) n ≡ true ∷ bits w (n - 2 ^ w)
unfolding bits
bits-high w n le = cond-true (leb (2 ^ w) n) (true ∷ bits w (n - 2 ^ w)) (false ∷ bits w n) (le-leb (2 ^ w) n le)

value-low : (xs : List Bool) → value (false ∷ xs) ≡ value xs
unfolding value
value-low xs = refl

value-high : (xs : List Bool) → value (true ∷ xs) ≡ 2 ^ length xs + value xs
unfolding value
value-high xs = refl

pub value-bits : (w n : ℕ) → n < 2 ^ w → value (bits w n) ≡ n
unfolding value bits
value-bits zero n lt = omega (arith, lt)
value-bits (suc w) n lt = elim (cases_lt n (2 ^ w)) [
  | inl below ↦ ap value (bits-low w n below) ∙ value-low (bits w n) ∙ value-bits w n below
  | inr above ↦ let ih = value-bits w (n - 2 ^ w) (omega (arith, lt, double w)) in
      ap value (bits-high w n above) ∙ value-high (bits w (n - 2 ^ w)) ∙ rw (length-bits w (n - 2 ^ w), ih) (omega (arith, above))
]

pub value-push : (xs : List Bool) (b : Bool) → value (xs ++ b ∷ []) ≡ 2 * value xs + bool_byte b
unfolding value
value-push [] true = refl
value-push [] false = refl
value-push (true ∷ xs) b =
    let len : length (xs ++ b ∷ []) ≡ suc (length xs) = omega (arith, length-append xs (b ∷ [])) in
    rw (value-push xs b, len, double (length xs)) (omega arith)
value-push (false ∷ xs) b = value-push xs b

-- ---- some bits were taken, one after the other

pub record Took (s : Place) (k number : ℕ) (t : Place) : Type 0 where
  pub room : k ≤ length s.rest
  pub is : number ≡ value (take k s.rest)
  pub rest : t.rest ≡ drop k s.rest
  pub at : t.at ≡ s.at + k

take-push : (k : ℕ) (xs : List Bool) (b : Bool) (ys : List Bool) → b ∷ ys ≡ drop k xs
    → (take (suc k) xs ≡ take k xs ++ b ∷ []) × (drop (suc k) xs ≡ ys) × (k < length xs)
take-push zero [] b ys e = absurd cc
take-push zero (x ∷ xs) b ys e = (cc, cc, omega arith)
take-push (suc k) [] b ys e = absurd cc
take-push (suc k) (x ∷ xs) b ys e =
    let ih = take-push k xs b ys e in (ap (λ (t : List Bool). x ∷ t) ih.0, ih.1, omega (arith, ih.2))

first-ok : (at : ℕ) (rest : List Bool) (b : Bool) (u : Place) → first_bit at rest ≡ Ok (b, u)
    → (b ∷ u.rest ≡ rest) × (u.at ≡ at + 1)
first-ok at [] b u e = absurd cc
first-ok at (x ∷ xs) b u e =
    let made : Bool × Place = (x, record { at = at + 1; rest = xs }) in
    let same : made ≡ (b, u) = cc in
    subst (λ (y : Bool × Place). (y.0 ∷ y.1.rest ≡ x ∷ xs) × (y.1.at ≡ at + 1)) same (refl, refl)

first-err : (at : ℕ) (rest : List Bool) (f : PerFault) → first_bit at rest ≡ Err f → (rest ≡ []) × (f ≡ Truncated)
first-err at [] f e = (refl, cc)
first-err at (x ∷ xs) f e = absurd cc

pub Took-none : (s : Place) → Took s 0 0 s
unfolding value
Took-none s = record { room = omega arith; is = refl; rest = refl; at = omega arith }

pub Took-more : (s t u : Place) (k n : ℕ) (b : Bool) → Took s k n t → bit_at t ≡ Ok (b, u) → Took s (k + 1) (2 * n + bool_byte b) u
Took-more s t u k n b h e =
    let f = first-ok t.at t.rest b u e in
    let p = take-push k s.rest b u.rest (f.0 ∙ h.rest) in
    record {
      room = omega (arith, p.2);
      is = rw (add-one k, p.0, value-push (take k s.rest) b, h.is) refl;
      rest = rw (add-one k) (sym p.1);
      at = rw (f.1, h.at) (omega arith);
    }

pub Took-below : (s t : Place) (k n : ℕ) → Took s k n t → n < 2 ^ k
Took-below s t k n h =
    let b = value_below (take k s.rest) in
    let len : length (take k s.rest) ≡ k = let r = h.room in omega (arith, length-take k s.rest) in
    let b' = rw len at b in rw h.is b'

pub Took-end : (s t : Place) (k n : ℕ) → Took s k n t → number_bits_at k s ≡ Ok (n, t)
unfolding take_at
Took-end s t k n h =
    rw (le-ltb (length s.rest) k h.room, h.is, ← h.rest, ← h.at) refl

pub Took-short : (s t : Place) (k n count : ℕ) (f : PerFault) → Took s k n t → k < count → bit_at t ≡ Err f
    → number_bits_at count s ≡ Err f
unfolding take_at
Took-short s t k n count f h lt e =
    let g = first-err t.at t.rest f e in
    let nothing : length (drop k s.rest) ≡ 0 = ap length (sym h.rest ∙ g.0) in
    let short : length s.rest < count = let r = h.room in omega (arith, length-drop k s.rest) in
    rw (lt-ltb (length s.rest) count short, g.1) refl

-- ---- octets

pub no_bit : (octets : List ℕ) (begun current left : ℕ) → left ≡ 0 → begun ≡ length octets
    → bits left current ++ octet_bits (drop begun octets) ≡ []
unfolding bits
no_bit octets begun current left e f = rw (e, drop_all begun octets (omega (arith, f))) refl

pub next_octet : (octets : List ℕ) (begun current left : ℕ) (b : Bool) (after : ℕ) → left ≡ 0 → begun < length octets
    → bits 8 (get_or octets begun 0) ≡ b ∷ bits 7 after
    → bits left current ++ octet_bits (drop begun octets) ≡ b ∷ (bits 7 after ++ octet_bits (drop (begun + 1) octets))
unfolding bits
next_octet octets begun current left b after e lt f = rw (e, drop_more octets begun 0 lt, f) refl

pub bool_below : (b : Bool) → bool_byte b < 2
bool_below true = omega arith
bool_below false = omega arith

pub place_is : (at after : ℕ) (b : Bool) {rest : List Bool} → at + 1 ≡ after
    → first_bit at (b ∷ rest) ≡ Ok (b, record { at = after; rest = rest })
place_is at after b {rest} e = rw e refl

pub left_is : (begun left : ℕ) → left < 8 → left ≤ 8 * begun → padding (8 * begun - left) ≡ left
left_is begun left lt le = omega arith

take-bits : (left current : ℕ) (rest : List Bool) → take left (bits left current ++ rest) ≡ bits left current
take-bits left current rest = take_front (bits left current) rest left (length-bits left current)

drop-bits : (left current : ℕ) (rest : List Bool) → drop left (bits left current ++ rest) ≡ rest
drop-bits left current rest = drop_front (bits left current) rest left (length-bits left current)

take_whole : (left current at : ℕ) (rest : List Bool)
    → take_at left (record { at = at; rest = bits left current ++ rest })
    ≡ Ok (bits left current, record { at = at + left; rest = rest })
unfolding take_at
take_whole left current at rest =
    let room : ltb (length (bits left current ++ rest)) left ≡ false =
    le-ltb _ _ (omega (arith, length-append (bits left current) rest, length-bits left current)) in
    rw (room, take-bits left current rest, drop-bits left current rest) refl

pub align_zero : (begun left current : ℕ) (rest : List Bool) → left < 8 → left ≤ 8 * begun → current ≡ 0
    → align_at (record { at = 8 * begun - left; rest = bits left current ++ rest })
    ≡ Ok (tt, record { at = 8 * begun; rest = rest })
unfolding align_at
align_zero begun left current rest lt le e =
    let back : 8 * begun - left + left ≡ 8 * begun = omega arith in
    let zero_is : value (bits left current) ≡ 0 = value-bits left current (rw e (pow_pos left)) ∙ e in
    rw (left_is begun left lt le, take_whole left current (8 * begun - left) rest, zero_is, back) refl

pub align_other : (begun left current : ℕ) (rest : List Bool) → left < 8 → left ≤ 8 * begun → current < 2 ^ left → (current ≡ 0 → ⊥)
    → align_at (record { at = 8 * begun - left; rest = bits left current ++ rest }) ≡ Err Padding
unfolding align_at
align_other begun left current rest lt le fits ne =
    rw (
      left_is begun left lt le,
      take_whole left current (8 * begun - left) rest,
      value-bits left current fits,
      ne_eqb current 0 ne,
    ) refl

abbrev result_at : ℕ → List Bool → Result (Unit {0} × Place) PerFault
result_at at rest = Ok (tt, record { at = at; rest = rest })

abbrev at_of : Result (Unit {0} × Place) PerFault → ℕ
at_of (Ok x) = x.1.at
at_of (Err e) = 0

pub at_octet : (begun current : ℕ) (rest : List Bool) {at : ℕ} → at ≡ 8 * begun
    → result_at at rest ≡ result_at (8 * begun - 0) (bits 0 current ++ rest)
unfolding bits
at_octet begun current rest {at} e = let k : at ≡ 8 * begun - 0 = omega (arith, e) in rw k refl

-- ---- octets and their bits

pub IsBytes-take : (n : ℕ) (xs : List ℕ) → IsBytes xs → IsBytes (take n xs)
IsBytes-take n xs h i =
    elim (cases_lt i n) [
      | inl lt ↦ rw (get_or-take n xs i 0 lt) (h i)
      | inr le ↦ rw (get_or_past (take n xs) i 0 (omega (arith, length-take n xs))) (omega arith)
    ]

pub IsBytes-drop : (n : ℕ) (xs : List ℕ) → IsBytes xs → IsBytes (drop n xs)
IsBytes-drop n xs h i = rw get_or-drop (h (n + i))

pub length-octet_bits : (xs : List ℕ) → length (octet_bits xs) ≡ 8 * length xs
length-octet_bits [] = refl
length-octet_bits (x ∷ xs) =
    let ih = length-octet_bits xs in omega (arith, length-append (bits 8 x) (octet_bits xs), length-bits 8 x, ih)

pub octets-back : (xs : List ℕ) → IsBytes xs → octets_of_bits (length xs) (octet_bits xs) ≡ xs
unfolding octets_of_bits
octets-back [] h = refl
octets-back (x ∷ xs) h =
    rw (
      take_front (bits 8 x) (octet_bits xs) 8 (length-bits 8 x),
      drop_front (bits 8 x) (octet_bits xs) 8 (length-bits 8 x),
      value-bits 8 x (h 0),
      octets-back xs (λ i. h (suc i)),
    ) refl

octet-parts : (n : ℕ) (xs : List ℕ) → octet_bits xs ≡ octet_bits (take n xs) ++ octet_bits (drop n xs)
octet-parts n xs = ap octet_bits (sym (take-append-drop n xs)) ∙ flat_map-append (bits 8) (take n xs) (drop n xs)

pub take-octets : (n at : ℕ) (xs : List ℕ) → IsBytes xs → n ≤ length xs
    → whole_octets_at n (record { at = at; rest = octet_bits xs })
    ≡ Ok (take n xs, record { at = at + 8 * n; rest = octet_bits (drop n xs) })
unfolding whole_octets_at take_at
take-octets n at xs h le =
    let many : length (take n xs) ≡ n = length-take-le n xs le in
    let len : length (octet_bits (take n xs)) ≡ 8 * n = omega (arith, length-octet_bits (take n xs), many) in
    let room : ltb (length (octet_bits xs)) (8 * n) ≡ false = le-ltb _ _ (omega (arith, length-octet_bits xs)) in
    let back : octets_of_bits n (octet_bits (take n xs)) ≡ take n xs =
    ap (λ k. octets_of_bits k (octet_bits (take n xs))) (sym many) ∙ octets-back (take n xs) (IsBytes-take n xs h) in
    let front : take (8 * n) (octet_bits xs) ≡ octet_bits (take n xs) =
    ap (take (8 * n)) (octet-parts n xs) ∙ take_front _ _ (8 * n) len in
    let after : drop (8 * n) (octet_bits xs) ≡ octet_bits (drop n xs) =
    ap (drop (8 * n)) (octet-parts n xs) ∙ drop_front _ _ (8 * n) len in
    rw (room, front, after, back) refl

pub few-octets : (n at : ℕ) (xs : List ℕ) → length xs < n
    → whole_octets_at n (record { at = at; rest = octet_bits xs }) ≡ Err Truncated
unfolding whole_octets_at take_at
few-octets n at xs lt =
    rw (lt-ltb (length (octet_bits xs)) (8 * n) (omega (arith, length-octet_bits xs))) refl

pub whole-octets : (begun left current n : ℕ) (octets : List ℕ) → IsBytes octets → left < 8 → left ≤ 8 * begun
    → (8 * begun - left) % 8 ≡ 0 → begun ≤ length octets → n ≤ length octets - begun
    → whole_octets_at n (record { at = 8 * begun - left; rest = bits left current ++ octet_bits (drop begun octets) })
    ≡ Ok (
      take n (drop begun octets),
      record { at = 8 * (begun + n) - left; rest = bits left current ++ octet_bits (drop (begun + n) octets) },
    )
unfolding bits
whole-octets begun left current n octets h lt le whole in_range room =
    let none : left ≡ 0 = omega arith in
    let more : 8 * begun + 8 * n ≡ 8 * (begun + n) = omega arith in
    let all : drop n (drop begun octets) ≡ drop (begun + n) octets = drop-drop n begun octets in
    rw (none, sub-zero (8 * begun), sub-zero (8 * (begun + n)), ← more, ← all)
    (take-octets n (8 * begun) (drop begun octets) (IsBytes-drop begun octets h) (omega (arith, length-drop begun octets)))

pub short-octets : (begun left current n : ℕ) (octets : List ℕ) → left < 8 → left ≤ 8 * begun → (8 * begun - left) % 8 ≡ 0
    → begun ≤ length octets → length octets - begun < n
    → whole_octets_at n (record { at = 8 * begun - left; rest = bits left current ++ octet_bits (drop begun octets) })
    ≡ Err Truncated
unfolding bits
short-octets begun left current n octets lt le whole in_range short =
    let none : left ≡ 0 = omega arith in
    rw none (few-octets n (8 * begun - 0) (drop begun octets) (omega (arith, length-drop begun octets)))

-- ---- steps that did not fail

pub bind_ok : {A B : Type 0} (r : Result A PerFault) (f : A → Result B PerFault) (y : B) → (r >>= f) ≡ Ok y
    → (x : A) × (r ≡ Ok x) × (f x ≡ Ok y)
bind_ok (Ok x) f y e = (x, refl, e)
bind_ok (Err d) f y e = absurd cc

pub unless_ok : {A : Type 0} (b : Bool) (d : PerFault) (x y : A) → cond b (Err d) (Ok x) ≡ Ok y → (b ≡ false) × (x ≡ y)
unless_ok true d x y e = absurd cc
unless_ok false d x y e = (refl, cc)

pub where_ok : {A : Type 0} (b : Bool) (d : PerFault) (x y : A) → cond b (Ok x) (Err d) ≡ Ok y → (b ≡ true) × (x ≡ y)
where_ok true d x y e = (refl, cc)
where_ok false d x y e = absurd cc

abbrev pub okay : {A : Type 0} → A → Result A PerFault
okay x = Ok x

pub ok_is : {A : Type 0} (x y : A) → okay x ≡ okay y → x ≡ y
ok_is x y e = cc

pub aligned_at : (s t : Place) → align_at s ≡ Ok (tt, t) → t.at % 8 ≡ 0
unfolding align_at take_at
aligned_at s t e =
    let u : List Bool × Place =
    (take (padding s.at) s.rest, record { at = s.at + padding s.at; rest = drop (padding s.at) s.rest }) in
    let last : Unit {0} × Place = (tt, t) in
    let a =
    bind_ok (cond (ltb (length s.rest) (padding s.at)) (Err Truncated) (okay u))
    (λ x. cond (eqb (value x.0) 0) (okay {A = Unit {0} × Place} (tt, x.1)) (Err Padding)) last e in
    let b = unless_ok (ltb (length s.rest) (padding s.at)) Truncated u a.0 a.1 in
    let c = where_ok {A = Unit {0} × Place} (eqb (value a.0.0) 0) Padding (tt, a.0.1) last a.2 in
    let p : s.at + padding s.at ≡ t.at = ap (λ (x : List Bool × Place). x.1.at) b.1 ∙ ap (λ (x : Unit {0} × Place). x.1.at) c.1 in
    omega (arith, p)

same_test : (a b c d : ℕ) → (a ≡ b → c ≡ d) → (c ≡ d → a ≡ b) → eqb a b ≡ eqb c d
same_test a b c d to from = elim (cases_eq a b) [
  | inl e ↦ eq-eqb a b e ∙ sym (eq-eqb c d (to e))
  | inr ne ↦ ne_eqb a b ne ∙ sym (ne_eqb c d (λ e. ne (from e)))
]

pub spent : (begun left current : ℕ) (octets : List ℕ) → left < 8 → left ≤ 8 * begun → (8 * begun - left) % 8 ≡ 0
    → begun ≤ length octets
    → eqb begun (length octets) ≡ eqb (length (bits left current ++ octet_bits (drop begun octets))) 0
spent begun left current octets lt le whole in_range =
    let none : left ≡ 0 = omega arith in
    let len : length (bits left current ++ octet_bits (drop begun octets)) ≡ 8 * (length octets - begun) =
    omega (
      arith,
      none,
      length-append (bits left current) (octet_bits (drop begun octets)),
      length-bits left current,
      length-octet_bits (drop begun octets),
      length-drop begun octets,
    ) in
    same_test begun (length octets) _ 0 (λ e. omega (arith, e, len)) (λ e. omega (arith, e, len, in_range))

-- ---- writing

pub bits-push : (w n : ℕ) (b : Bool) → n < 2 ^ w → bits (w + 1) (2 * n + bool_byte b) ≡ bits w n ++ b ∷ []
bits-push w n b lt =
    let xs : List Bool = bits w n ++ b ∷ [] in
    let len : length xs ≡ w + 1 = omega (arith, length-append (bits w n) (b ∷ []), length-bits w n) in
    let val : value xs ≡ 2 * n + bool_byte b = value-push (bits w n) b ∙ ap (λ m. 2 * m + bool_byte b) (value-bits w n lt) in
    sym (ap (λ k. bits k (2 * n + bool_byte b)) len) ∙ sym (ap (bits (length xs)) val) ∙ bits-value xs

pub push-octet : (octets : List ℕ) (used current octet : ℕ) (b : Bool) → used ≡ 7
    → bits (used + 1) octet ≡ bits used current ++ b ∷ []
    → octet_bits (octets ++ octet ∷ []) ++ bits 0 0 ≡ (octet_bits octets ++ bits used current) ++ b ∷ []
unfolding bits
push-octet octets used current octet b e h =
    let k : 8 ≡ used + 1 = omega (arith, e) in
    let eight : bits 8 octet ≡ bits used current ++ b ∷ [] = ap (λ k. bits k octet) k ∙ h in
    append-nil (octet_bits (octets ++ octet ∷ [])) ∙ sym (flat_map_more (bits 8) [] octets octet)
    ∙ ap (λ (l : List Bool). octet_bits octets ++ l) eight ∙ sym (append_assoc (octet_bits octets) (bits used current) (b ∷ []))

pub put-more : (now after whole : List Bool) (k n : ℕ) (b : Bool) (m : ℕ) → bits k n ≡ b ∷ bits (k - 1) m → after ≡ now ++ b ∷ []
    → now ++ bits k n ≡ whole → after ++ bits (k - 1) m ≡ whole
put-more now after whole k n b m e f h =
    rw f (append_assoc now (b ∷ []) (bits (k - 1) m)) ∙ ap (λ (l : List Bool). now ++ l) (sym e) ∙ h

pub put-end : (now whole : List Bool) (k n : ℕ) → k ≡ 0 → now ++ bits k n ≡ whole → now ≡ whole
unfolding bits
put-end now whole k n e h = sym (append-nil now) ∙ ap (λ j. now ++ bits j n) (sym e) ∙ h

pub bits-zero : (w : ℕ) → bits w 0 ≡ replicate w false
bits-zero zero = unfold bits in refl
bits-zero (suc w) = bits-low w 0 (pow_pos w) ∙ ap (λ (l : List Bool). false ∷ l) (bits-zero w)

pub pad-is : (octets : List ℕ) (used current : ℕ) → used < 8
    → bits ((8 - used) % 8) 0 ≡ pad (length (octet_bits octets ++ bits used current))
pad-is octets used current lt =
    let len : (8 - length (octet_bits octets ++ bits used current) % 8) % 8 ≡ (8 - used) % 8 =
    omega (arith, length-append (octet_bits octets) (bits used current), length-octet_bits octets, length-bits used current) in
    bits-zero ((8 - used) % 8) ∙ ap (λ k. replicate k false) (sym len)

pub pad_now : (now : List Bool) (octets : List ℕ) (used current : ℕ) → octet_bits octets ++ bits used current ≡ now → used < 8
    → bits ((8 - used) % 8) 0 ≡ pad (length now)
pad_now now octets used current e lt = pad-is octets used current lt ∙ ap (λ (l : List Bool). pad (length l)) e

-- where the last octet isn't full
pub pad_here : (now : List Bool) (octets : List ℕ) (used current : ℕ) → octet_bits octets ++ bits used current ≡ now → used < 8
    → 0 < used → bits (8 - used) 0 ≡ pad (length now)
pad_here now octets used current e lt some =
    let same : 8 - used ≡ (8 - used) % 8 = omega (arith, lt, some) in
    ap (λ k. bits k 0) same ∙ pad_now now octets used current e lt

-- and where it is
pub no_pad : (now : List Bool) (octets : List ℕ) (used current : ℕ) → octet_bits octets ++ bits used current ≡ now → used ≡ 0
    → now ≡ now ++ pad (length now)
no_pad now octets used current e none =
    let l = ap length e in
    let whole : padding (length now) ≡ 0 =
    omega
    (arith, l, none, length-append (octet_bits octets) (bits used current), length-octet_bits octets, length-bits used current) in
    sym (append-nil now) ∙ ap (λ (bs : List Bool). now ++ bs) (sym (ap (λ k. replicate k false) whole))
