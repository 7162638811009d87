-- Bits in two parts: the number of both is that of the first, and after it that of the second.
use Rattle.std.proofs.Common.{◌≡◌, ℕ, zero, suc, ◌+◌, ◌-◌, ◌*◌, ◌/◌, ◌^◌, ◌%◌, ◌<◌, ◌≤◌, Bool, true, false, eqb, List, [], ◌∷◌, ◌++◌, length, take, drop, get_or, replicate, Result, Ok, Err, refl, sym, ap, subst, ◌∙◌, arith, append_assoc, inl, inr}
use Rattle.std.proofs.lemmas.Bool.{lt-ltb, le-ltb, cases_lt}
use Rattle.std.proofs.lemmas.List.{length-append, length-drop, drop-drop, drop-take, take-take, take-append-drop, length-take-le, drop_more, append-nil, flat_map_more}
use Rattle.std.proofs.lemmas.List.{take_at as take_front, drop_at as drop_front}
use Rattle.std.proofs.lemmas.Grind.{flat_map-append}
use Rattle.std.proofs.Math.Pow.{pow_mono}
use Rattle.std.proofs.lemmas.Nat.{pow_pos, pow-add, mul-add-lt, shr_below}
use Rattle.std.proofs.Math.Nat.{add-mul, div-add-mod, mod-lt}
use Rattle.per_streams.specs.declared.fault.PerFault.{PerFault}
use Rattle.per_streams.specs.declared.fault.PerFault.TheVariants.{Truncated}
use Rattle.per_streams.specs.Bits.{value, bits, octet_bits, padding, pad, Place, ◌>>=◌, take_at, number_bits_at, IsBytes}
use Rattle.per_streams.specs.BitLaws.{value-bits, bits-value, bits-zero, length-bits, length-octet_bits}

pub value-append : (xs ys : List Bool) → value (xs ++ ys) ≡ value xs * 2 ^ length ys + value ys
unfolding value
value-append [] ys = omega arith
value-append (true ∷ xs) ys =
    rw
    (length-append xs ys, pow-add 2 (length xs) (length ys), value-append xs ys, add-mul (2 ^ length xs) (value xs) (2 ^ length ys))
    (omega arith)
value-append (false ∷ xs) ys = value-append xs ys

pub bits-join : (a b m n : ℕ) → m < 2 ^ a → n < 2 ^ b → bits (a + b) (m * 2 ^ b + n) ≡ bits a m ++ bits b n
bits-join a b m n l k =
    let xs : List Bool = bits a m ++ bits b n in
    let len : length xs ≡ a + b = omega (arith, length-append (bits a m) (bits b n), length-bits a m, length-bits b n) in
    let val : value xs ≡ m * 2 ^ b + n =
    value-append (bits a m) (bits b n) ∙ rw (length-bits b n, value-bits a m l, value-bits b n k) refl in
    sym (ap (λ k. bits k (m * 2 ^ b + n)) len) ∙ sym (ap (bits (length xs)) val) ∙ bits-value xs

pub bits-split : (left some current : ℕ) → some ≤ left → current < 2 ^ left
    → (bits left current ≡ bits some (current / 2 ^ (left - some)) ++ bits (left - some) (current % 2 ^ (left - some)))
    × (current / 2 ^ (left - some) < 2 ^ some) × (current % 2 ^ (left - some) < 2 ^ (left - some))
bits-split left some current le lt =
    let k : ℕ = left - some in
    let sum : some + k ≡ left = omega arith in
    let below : current < 2 ^ (some + k) = subst (λ j. current < 2 ^ j) (sym sum) lt in
    let high : current / 2 ^ k < 2 ^ some = shr_below current some k below in
    let low : current % 2 ^ k < 2 ^ k = mod-lt current (pow_pos k) in
    let back : current / 2 ^ k * 2 ^ k + current % 2 ^ k ≡ current = let e = div-add-mod current (2 ^ k) in omega (arith, e) in (
      sym (ap (λ j. bits j current) sum) ∙ ap (bits (some + k)) (sym back)
          ∙ bits-join some k (current / 2 ^ k) (current % 2 ^ k) high low,
      high,
      low,
    )

-- a number of one bit
pub bit-is : (n : ℕ) → n < 2 → bits 1 n ≡ eqb n 1 ∷ []
unfolding bits
bit-is zero lt = refl
bit-is (suc zero) lt = refl
bit-is (suc (suc n)) lt = absurd (omega (arith, lt))

-- ---- reading

pub taken : (n : ℕ) (s : Place) → n ≤ length s.rest
    → take_at n s ≡ Ok (take n s.rest, record { at = s.at + n; rest = drop n s.rest })
unfolding take_at
taken n s le = rw (le-ltb (length s.rest) n le) refl

pub short : (n : ℕ) (s : Place) → length s.rest < n → take_at n s ≡ Err Truncated
unfolding take_at
short n s lt = rw (lt-ltb (length s.rest) n lt) refl

pub nothing_left : (n : ℕ) (s : Place) → s.rest ≡ [] → 0 < n → number_bits_at n s ≡ Err Truncated
nothing_left n s e lt = let len : length s.rest < n = let k = ap length e in omega (arith, k) in rw (short n s len) refl

pub number-none : (s : Place) → number_bits_at 0 s ≡ Ok (0, s)
unfolding value
number-none s = let z : s.at + 0 ≡ s.at = omega arith in rw (taken 0 s (omega arith), z) refl

-- a number, and N bits after it
abbrev pub continued : ℕ → ℕ → Result (ℕ × Place) PerFault → Result (ℕ × Place) PerFault
continued number width read = read >>= λ x. Ok (number * 2 ^ width + x.0, x.1)

pub number-parts : (a b : ℕ) (s : Place)
    → number_bits_at (a + b) s ≡ (number_bits_at a s >>= λ x. continued x.0 b (number_bits_at b x.1))
number-parts a b s =
    elim (cases_lt (length s.rest) a) [
      | inl few ↦ rw (short a s few, short (a + b) s (omega (arith, few))) refl
      | inr some ↦ elim (cases_lt (length s.rest) (a + b)) [
        | inl less ↦
            let t : Place = record { at = s.at + a; rest = drop a s.rest } in
            rw (short (a + b) s less, taken a s some, short b t (omega (arith, less, length-drop a s.rest))) refl
        | inr all ↦
            let t : Place = record { at = s.at + a; rest = drop a s.rest } in
            let room : b ≤ length (drop a s.rest) = omega (arith, all, length-drop a s.rest) in
            let front : take a (take (a + b) s.rest) ≡ take a s.rest = take-take a (a + b) s.rest (omega arith) in
            let left : drop a (take (a + b) s.rest) ≡ take b (drop a s.rest) = drop-take a b s.rest in
            let whole : take (a + b) s.rest ≡ take a s.rest ++ take b (drop a s.rest) =
            sym (take-append-drop a (take (a + b) s.rest)) ∙ rw (front, left) refl in
            let len : length (take b (drop a s.rest)) ≡ b = length-take-le b (drop a s.rest) room in
            let sum : value (take (a + b) s.rest) ≡ value (take a s.rest) * 2 ^ b + value (take b (drop a s.rest)) =
            ap value whole ∙ value-append (take a s.rest) (take b (drop a s.rest))
            ∙ ap (λ k. value (take a s.rest) * 2 ^ k + value (take b (drop a s.rest))) len in
            let after : drop b (drop a s.rest) ≡ drop (a + b) s.rest = drop-drop b a s.rest in
            let place : s.at + a + b ≡ s.at + (a + b) = omega arith in
            rw (taken (a + b) s all, taken a s some, taken b t room, after, place, sum) refl
      ]
    ]

continued-continued : (n m a b : ℕ) (read : Result (ℕ × Place) PerFault)
    → continued n (a + b) (continued m b read) ≡ continued (n * 2 ^ a + m) b read
continued-continued n m a b (Ok x) =
    let e : n * 2 ^ (a + b) + (m * 2 ^ b + x.0) ≡ (n * 2 ^ a + m) * 2 ^ b + x.0 =
    rw (pow-add 2 a b, add-mul (n * 2 ^ a) m (2 ^ b)) (omega arith) in
    ap (λ k. Ok (k, x.1)) e
continued-continued n m a b (Err f) = refl

pub continued_none : (w : ℕ) (read : Result (ℕ × Place) PerFault) → continued 0 w read ≡ read
continued_none w (Ok x) = let e : 0 * 2 ^ w + x.0 ≡ x.0 = omega arith in ap (λ k. Ok (k, x.1)) e
continued_none w (Err f) = refl

pub part_read : (n p some wanted : ℕ) (s t : Place) (total : Result (ℕ × Place) PerFault) → some ≤ wanted
    → number_bits_at some s ≡ Ok (p, t)
    → continued n wanted (number_bits_at wanted s) ≡ total
    → continued (n * 2 ^ some + p) (wanted - some) (number_bits_at (wanted - some) t) ≡ total
part_read n p some wanted s t total le e so_far =
    let sum : some + (wanted - some) ≡ wanted = omega arith in
    let parts : number_bits_at wanted s ≡ continued p (wanted - some) (number_bits_at (wanted - some) t) =
    ap (λ k. number_bits_at k s) (sym sum) ∙ number-parts some (wanted - some) s ∙ rw e refl in
    sym (continued-continued n p some (wanted - some) (number_bits_at (wanted - some) t))
    ∙ ap (λ k. continued n k (continued p (wanted - some) (number_bits_at (wanted - some) t))) sum ∙ ap (continued n wanted) (sym parts)
    ∙ so_far

pub part_fits : (n p some count wanted : ℕ) → some ≤ wanted → wanted ≤ count → n < 2 ^ (count - wanted) → p < 2 ^ some
    → n * 2 ^ some + p < 2 ^ (count - (wanted - some))
part_fits n p some count wanted le room lt below =
    let sum : some + (count - wanted) ≡ count - (wanted - some) = omega arith in
    let k : n * 2 ^ some + p < 2 ^ some * 2 ^ (count - wanted) = mul-add-lt n (2 ^ some) p (2 ^ (count - wanted)) lt below in
    let both : 2 ^ some * 2 ^ (count - wanted) ≡ 2 ^ (count - (wanted - some)) =
    sym (pow-add 2 some (count - wanted)) ∙ ap (λ j. 2 ^ j) sum in
    subst (λ m. n * 2 ^ some + p < m) both k

pub all_read : (n wanted : ℕ) (s : Place) (total : Result (ℕ × Place) PerFault) → wanted ≡ 0
    → continued n wanted (number_bits_at wanted s) ≡ total → total ≡ Ok (n, s)
all_read n wanted s total e so_far =
    let back : n * 2 ^ 0 + 0 ≡ n = omega arith in
    sym so_far ∙ ap (λ k. continued n k (number_bits_at k s)) e ∙ ap (continued n 0) (number-none s) ∙ ap (λ k. Ok (k, s)) back

-- ---- the bits of one octet

pub front_part : (some part at after : ℕ) (whole tail : List Bool) → part < 2 ^ some → whole ≡ bits some part ++ tail
    → at + some ≡ after
    → number_bits_at some (record { at = at; rest = whole }) ≡ Ok (part, record { at = after; rest = tail })
front_part some part at after whole tail lt e f =
    let len = length-bits some part in
    let room : some ≤ length whole = let k = ap length e in omega (arith, k, len, length-append (bits some part) tail) in
    let front : take some whole ≡ bits some part = ap (take some) e ∙ take_front (bits some part) tail some len in
    let back : drop some whole ≡ tail = ap (drop some) e ∙ drop_front (bits some part) tail some len in
    rw (taken some (record { at = at; rest = whole }) room, front, back, value-bits some part lt, f) refl

pub fresh_part : (octets : List ℕ) (begun current left some part after : ℕ) → left ≡ 0 → begun < length octets → some ≤ 8
    → part < 2 ^ some
    → bits 8 (get_or octets begun 0) ≡ bits some part ++ bits (8 - some) after
    → number_bits_at some (record { at = 8 * begun - left; rest = bits left current ++ octet_bits (drop begun octets) })
    ≡ Ok (part, record { at = 8 * (begun + 1) - (8 - some); rest = bits (8 - some) after ++ octet_bits (drop (begun + 1) octets) })
unfolding bits
fresh_part octets begun current left some part after e lt le below parts =
    let whole : bits left current ++ octet_bits (drop begun octets)
    ≡ bits some part ++ (bits (8 - some) after ++ octet_bits (drop (begun + 1) octets)) =
    rw (e, drop_more octets begun 0 lt, parts)
    (append_assoc (bits some part) (bits (8 - some) after) (octet_bits (drop (begun + 1) octets))) in
    front_part some part (8 * begun - left) (8 * (begun + 1) - (8 - some)) _ _ below whole (omega arith)

pub later_part : (begun current left some part after : ℕ) (more : List Bool) → some ≤ left → left ≤ 8 * begun → part < 2 ^ some
    → bits left current ≡ bits some part ++ bits (left - some) after
    → number_bits_at some (record { at = 8 * begun - left; rest = bits left current ++ more })
    ≡ Ok (part, record { at = 8 * begun - (left - some); rest = bits (left - some) after ++ more })
later_part begun current left some part after more le room below parts =
    let whole : bits left current ++ more ≡ bits some part ++ (bits (left - some) after ++ more) =
    rw parts (append_assoc (bits some part) (bits (left - some) after) more) in
    front_part some part (8 * begun - left) (8 * begun - (left - some)) _ _ below whole (omega arith)

-- a whole octet, which leaves none of its bits
pub fresh_octet : (octets : List ℕ) (begun current left : ℕ) → left ≡ 0 → begun < length octets → IsBytes octets
    → number_bits_at 8 (record { at = 8 * begun - left; rest = bits left current ++ octet_bits (drop begun octets) })
    ≡ Ok (
      get_or octets begun 0,
      record { at = 8 * (begun + 1) - left; rest = bits left current ++ octet_bits (drop (begun + 1) octets) },
    )
unfolding bits
fresh_octet octets begun current left e lt bytes =
    let octet = get_or octets begun 0 in
    let k =
    fresh_part octets begun current left 8 octet current e lt (omega arith) (bytes begun) (sym (append-nil (bits 8 octet))) in
    rw e (rw e at k)

-- ---- writing

pub joined_fits : (used some current part : ℕ) → used < 8 → some ≤ 8 → current < 2 ^ used → part < 2 ^ some
    → (current * 2 ^ some + part < 2 ^ (used + some)) × (current * 2 ^ some + part < 65536)
joined_fits used some current part few most lt below =
    let k : current * 2 ^ some + part < 2 ^ some * 2 ^ used = mul-add-lt current (2 ^ some) part (2 ^ used) lt below in
    let both : 2 ^ some * 2 ^ used ≡ 2 ^ (used + some) = sym (pow-add 2 some used) ∙ ap (λ j. 2 ^ j) (omega arith) in
    let fits : current * 2 ^ some + part < 2 ^ (used + some) = subst (λ m. current * 2 ^ some + part < m) both k in
    let most : 2 ^ (used + some) ≤ 2 ^ 16 = pow_mono {i = used + some} {j = 16} (omega (arith, few, most)) in
    (fits, omega (arith, fits, most))

-- the bits all stand in the last octet
pub put_inside : (octets : List ℕ) (used current count number joined : ℕ)
    → bits (used + count) joined ≡ bits used current ++ bits count number
    → octet_bits octets ++ bits (used + count) joined ≡ (octet_bits octets ++ bits used current) ++ bits count number
put_inside octets used current count number joined e =
    ap (λ (l : List Bool). octet_bits octets ++ l) e
    ∙ sym (append_assoc (octet_bits octets) (bits used current) (bits count number))

-- the last octet is full, and the bits after it are begun
pub put_full : (octets : List ℕ) (used current count number joined octet rest : ℕ)
    → bits (used + count) joined ≡ bits used current ++ bits count number
    → bits (used + count) joined ≡ bits 8 octet ++ bits (used + count - 8) rest
    → octet_bits (octets ++ octet ∷ []) ++ bits (used + count - 8) rest
    ≡ (octet_bits octets ++ bits used current) ++ bits count number
put_full octets used current count number joined octet rest e parts =
    rw (sym (flat_map_more (bits 8) [] octets octet))
    (append_assoc (octet_bits octets) (bits 8 octet) (bits (used + count - 8) rest)
    ∙ ap (λ (l : List Bool). octet_bits octets ++ l) (sym parts)
    ∙ put_inside octets used current count number joined e)

-- a number with zero bits after it
pub filled_fits : (used number : ℕ) → used ≤ 8 → number < 2 ^ used
    → (number * 2 ^ (8 - used) < 256) × (bits 8 (number * 2 ^ (8 - used)) ≡ bits used number ++ bits (8 - used) 0)
filled_fits used number le lt =
    let k : number * 2 ^ (8 - used) + 0 < 2 ^ (8 - used) * 2 ^ used =
    mul-add-lt number (2 ^ (8 - used)) 0 (2 ^ used) lt (pow_pos (8 - used)) in
    let sum : used + (8 - used) ≡ 8 = omega (arith, le) in
    let back : (8 - used) + used ≡ 8 = omega (arith, le) in
    let both : 2 ^ (8 - used) * 2 ^ used ≡ 2 ^ 8 = sym (pow-add 2 (8 - used) used) ∙ ap (λ j. 2 ^ j) back in
    let below : number * 2 ^ (8 - used) + 0 < 256 = subst (λ m. number * 2 ^ (8 - used) + 0 < m) both k in
    let none : number * 2 ^ (8 - used) ≡ number * 2 ^ (8 - used) + 0 = omega arith in (
      omega (arith, below),
      ap (λ j. bits j (number * 2 ^ (8 - used))) (sym sum) ∙ ap (bits (used + (8 - used))) none
          ∙ bits-join used (8 - used) number 0 lt (pow_pos (8 - used)),
    )

-- the octet in which some bits end
pub put_filled : (octets : List ℕ) (used number octet at : ℕ) (text : List Bool) → 0 < used → used ≤ 8 → length text ≡ at
    → octet_bits octets ++ bits used number ≡ text
    → bits 8 octet ≡ bits used number ++ bits (8 - used) 0
    → (octet_bits octets ++ bits 0 0) ++ bits 8 octet ≡ text ++ pad at
unfolding bits
put_filled octets used number octet at text some le size e f =
    let l = ap length e in
    let gap : padding at ≡ 8 - used =
    omega
    (arith, l, size, some, le, length-append (octet_bits octets) (bits used number), length-octet_bits octets, length-bits used number) in
    let zeros : bits (8 - used) 0 ≡ pad at = bits-zero (8 - used) ∙ ap (λ k. replicate k false) (sym gap) in
    ap (λ (l : List Bool). l ++ bits 8 octet) (append-nil (octet_bits octets))
    ∙ ap (λ (l : List Bool). octet_bits octets ++ l) f
    ∙ sym (append_assoc (octet_bits octets) (bits used number) (bits (8 - used) 0))
    ∙ ap (λ (l : List Bool). l ++ bits (8 - used) 0) e ∙ ap (λ (l : List Bool). text ++ l) zeros

-- octets after whole octets
pub put_whole : (octets more : List ℕ) (used current : ℕ) → used ≡ 0
    → octet_bits (octets ++ more) ++ bits used current ≡ (octet_bits octets ++ bits used current) ++ octet_bits more
unfolding bits
put_whole octets more used current none =
    rw (none, append-nil (octet_bits (octets ++ more)), append-nil (octet_bits octets)) (flat_map-append (bits 8) octets more)

pub put_more : (now after whole : List Bool) (k n m p : ℕ) → after ++ bits m p ≡ now ++ bits k n → now ++ bits k n ≡ whole
    → after ++ bits m p ≡ whole
put_more now after whole k n m p e so_far = e ∙ so_far

pub IsBytes-append : (xs ys : List ℕ) → IsBytes xs → IsBytes ys → IsBytes (xs ++ ys)
IsBytes-append [] ys h k i = k i
IsBytes-append (x ∷ xs) ys h k zero = h 0
IsBytes-append (x ∷ xs) ys h k (suc i) = IsBytes-append xs ys (λ j. h (suc j)) k i
