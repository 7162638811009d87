-- Bit strings of a fixed length, and bits that are kept as one number.
use Rattle.std.specs.Prelude.{OnErr, OnOk}
use Rattle.std.proofs.Common.{◌≡◌, ℕ, ◌+◌, ◌-◌, ◌*◌, ◌/◌, ◌%◌, ◌^◌, ◌<◌, ◌≤◌, Bool, false, eqb, List, [], ◌∷◌, ◌++◌, length, take, set, get_or, Result, Ok, Err, append_assoc, refl, sym, ap, subst, ◌∙◌, arith, add-one}
use Rattle.std.proofs.lemmas.Bool.{lt-ltb, le-ltb, eq-eqb}
use Rattle.std.proofs.lemmas.List.{get_or_append_left, get_or_at, length-take-le, take_all}
use Rattle.std.proofs.Math.Nat.{pow-succ'}
use Rattle.std.proofs.Math.Pow.{pow_mono}
use Rattle.std.proofs.Math.Seq.{take-suc, take-suc-set}
use mir.Val.{bool_byte}
use Rattle.per_streams.specs.declared.fault.PerError.{PerError}
use Rattle.per_streams.specs.declared.fault.PerError.TheVariants.{NoMemory, Fault}
use Rattle.per_streams.specs.Bits.{Place, pad, bits, value, take_at, align_at, aligned_bits_at}
use Rattle.per_streams.specs.BitLaws.{length-bits, value_below, value-push, bits-value}
use Rattle.per_streams.specs.PartLaws.{bits-split, bits-join, bit-is}
use Rattle.per_streams.specs.Writing.{Wrote}
use Rattle.per_bits.specs.declared.kept.Kept.{Kept}
use Rattle.per_bits.specs.declared.kept.Kept.TheVariants.{Number}
use Rattle.per_bits.specs.Kept.{IsKept, kept_bits}
use Rattle.per_bits.specs.Reading.{bits_at}
use Rattle.per_bits.specs.Writing.{write_bits}

pub read_near : (n : ℕ) (bs : List Bool) (s t : Place) → n < 17 → take_at n s ≡ Ok (bs, t) → bits_at n s ≡ Ok (bs, t)
unfolding bits_at
read_near n bs s t lt e = rw (lt-ltb n 17 lt) e

pub read_far : (n : ℕ) (bs : List Bool) (s t u : Place) → 17 ≤ n → align_at s ≡ Ok (tt, t) → take_at n t ≡ Ok (bs, u)
    → bits_at n s ≡ Ok (bs, u)
unfolding bits_at aligned_bits_at
read_far n bs s t u le a e = rw (le-ltb n 17 le, a) e

-- ---- writing

bits_near : (n : ℕ) (bs old : List Bool) → length bs ≡ n → n < 17 → write_bits n bs old ≡ Ok (old ++ bs)
unfolding write_bits
bits_near n bs old long lt = rw (eq-eqb (length bs) n long, lt-ltb n 17 lt) refl

bits_far : (n : ℕ) (bs old : List Bool) → length bs ≡ n → 17 ≤ n → write_bits n bs old ≡ Ok (old ++ (pad (length old) ++ bs))
unfolding write_bits
bits_far n bs old long le = rw (eq-eqb (length bs) n long, le-ltb n 17 le) refl

pub wrote_near : {X : Type 0} (n : ℕ) (bs old new all : List Bool) (r : Result X PerError) → bs ≡ all → length bs ≡ n → n < 17
    → OnOk r (new ≡ old ++ bs) → OnErr r (r ≡ Err NoMemory) → Wrote r new (write_bits n all old)
wrote_near n bs old new all (Ok x) e long lt wrote refused = rw (← e, wrote) (bits_near n bs old long lt)
wrote_near n bs old new all (Err NoMemory) e long lt wrote refused = tt
wrote_near n bs old new all (Err (Fault f)) e long lt wrote refused = absurd cc

pub wrote_far : {X : Type 0} (n : ℕ) (bs old mid new all : List Bool) (r : Result X PerError) → bs ≡ all → length bs ≡ n → 17 ≤ n
    → mid ≡ old ++ pad (length old) → OnOk r (new ≡ mid ++ bs) → OnErr r (r ≡ Err NoMemory) → Wrote r new (write_bits n all old)
wrote_far n bs old mid new all (Ok x) e long le aligned wrote refused =
    rw (← e, wrote, aligned)
    (bits_far n bs old long le ∙ ap (λ (l : List Bool). Ok l) (sym (append_assoc old (pad (length old)) bs)))
wrote_far n bs old mid new all (Err NoMemory) e long le aligned wrote refused = tt
wrote_far n bs old mid new all (Err (Fault f)) e long le aligned wrote refused = absurd cc

-- ---- the number of the first bits

pub first_of : value [] ≡ 0
unfolding value
first_of = refl

pub number_more : (bs : List Bool) (i number : ℕ) → i < length bs → number ≡ value (take i bs)
    → 2 * number + bool_byte (get_or bs i false) ≡ value (take (i + 1) bs)
number_more bs i number lt so_far =
    let e : take (i + 1) bs ≡ take i bs ++ get_or bs i false ∷ [] = ap (λ k. take k bs) (add-one i) ∙ take-suc bs i false lt in
    rw so_far (sym (value-push (take i bs) (get_or bs i false)) ∙ ap value (sym e))

pub number_below : (bs : List Bool) (i number : ℕ) → i ≤ length bs → number ≡ value (take i bs) → number < 2 ^ i
number_below bs i number le so_far =
    let below = value_below (take i bs) in
    rw so_far (subst (λ k. value (take i bs) < 2 ^ k) (length-take-le i bs le) below)

pub number_fits : (bs : List Bool) (n i number : ℕ) → length bs ≡ n → n ≤ 64 → i < n → number ≡ value (take i bs)
    → 2 * number + bool_byte (get_or bs i false) < 2 ^ 64
number_fits bs n i number long most lt so_far =
    let below =
    number_below bs (i + 1) (2 * number + bool_byte (get_or bs i false)) (omega (arith, long, lt))
    (number_more bs i number (omega (arith, long, lt)) so_far) in
    let room = pow_mono {i = i + 1} {j = 64} (omega arith) in
    omega (arith, below, room)

pub number_all : (bs : List Bool) (n i number : ℕ) → length bs ≡ n → n ≤ i → number ≡ value (take i bs)
    → (number < 2 ^ n) × (bits n number ≡ bs)
number_all bs n i number long end so_far =
    let all : number ≡ value bs = so_far ∙ ap value (take_all i bs (omega (arith, long))) in
    (rw (← long, all) (value_below bs), rw (← long, all) (bits-value bs))

-- ---- the bits one by one

pub bits_more : (new bs : List Bool) (n i : ℕ) → length new ≡ n → length bs ≡ n → i < n → take i new ≡ take i bs
    → take (i + 1) (set new i (get_or bs i false)) ≡ take (i + 1) bs
bits_more new bs n i new_long long lt so_far =
    rw add-one
    (take-suc-set new i (get_or bs i false) (omega (arith, new_long)) ∙ ap (λ (l : List Bool). l ++ get_or bs i false ∷ []) so_far
    ∙ sym (take-suc bs i false (omega (arith, long))))

pub bits_all : (new bs : List Bool) (n i : ℕ) → length new ≡ n → length bs ≡ n → n ≤ i → take i new ≡ take i bs → new ≡ bs
bits_all new bs n i new_long long end so_far =
    sym (take_all i new (omega (arith, new_long))) ∙ so_far ∙ take_all i bs (omega (arith, long))

-- ---- one of the bits

pow_more : (i : ℕ) → 2 ^ (i + 1) ≡ 2 * 2 ^ i
pow_more i = ap (λ k. 2 ^ k) (add-one i) ∙ pow-succ' 2 i

last_bit : (i p : ℕ) → p < 2 ^ (i + 1) → get_or (bits (i + 1) p) i false ≡ eqb (p % 2) 1
last_bit i p lt =
    let high : p / 2 < 2 ^ i = let d = pow_more i in omega (arith, d) in
    let sum : p / 2 * 2 ^ 1 + p % 2 ≡ p = omega arith in
    let parts : bits (i + 1) p ≡ bits i (p / 2) ++ eqb (p % 2) 1 ∷ [] =
    ap (bits (i + 1)) (sym sum) ∙ bits-join i 1 (p / 2) (p % 2) high (omega arith)
    ∙ ap (λ (l : List Bool). bits i (p / 2) ++ l) (bit-is (p % 2) (omega arith)) in
    ap (λ (l : List Bool). get_or l i false) parts ∙ get_or_at (bits i (p / 2)) (eqb (p % 2) 1) [] false i (length-bits i (p / 2))

pub bit_of : (n i number : ℕ) → i < n → number < 2 ^ n → get_or (bits n number) i false ≡ eqb (number / 2 ^ (n - 1 - i) % 2) 1
bit_of n i number lt fits =
    let sum : n - (i + 1) ≡ n - 1 - i = omega arith in
    let p : ℕ = number / 2 ^ (n - (i + 1)) in
    let parts = bits-split n (i + 1) number (omega arith) fits in
    ap (λ (l : List Bool). get_or l i false) parts.0
    ∙ get_or_append_left (bits (i + 1) p) _ false i (omega (arith, length-bits (i + 1) p)) ∙ last_bit i p parts.1
    ∙ ap (λ k. eqb (number / 2 ^ k % 2) 1) sum

pub bit_of_number : {n : ℕ} (k : Kept n) (i number : ℕ) (all : List Bool) → k ≡ Number number → IsKept k → kept_bits k ≡ all
    → i < n → eqb (number / 2 ^ (n - 1 - i) % 2) 1 ≡ get_or all i false
bit_of_number {n} k i number all e h view lt =
    let fits = (subst (λ (j : Kept n). IsKept j) e h).1 in
    let same : bits n number ≡ all = ap (λ (j : Kept n). kept_bits j) (sym e) ∙ view in
    sym (bit_of n i number lt fits) ∙ ap (λ (l : List Bool). get_or l i false) same
