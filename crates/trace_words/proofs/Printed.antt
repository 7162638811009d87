-- A number that is printed reads as itself, in no more digits than it was read from.
use Rattle.std.proofs.Common.{◌≡◌, ℕ, ◌+◌, ◌*◌, ◌-◌, ◌/◌, ◌%◌, ◌^◌, ◌<◌, ◌≤◌, Bool, true, false, cond, List, [], ◌∷◌, ◌++◌, length, Some, None, refl, ap, ◌∙◌, arith, suc}
use Rattle.std.specs.Char.{is_ascii_digit}
use Rattle.std.specs.Fmt.{decimal}
use Rattle.std.proofs.lemmas.Fmt.{decimal_by_steps, length-decimal-le}
use Rattle.std.proofs.lemmas.Bool.Decides.{nat_tests}
use Rattle.std.proofs.Math.Nat.{mul-le-mul_right, pow-succ'}
use Rattle.trace_words.specs.Trace.{decimal_from, decimal_of}
use Rattle.trace_words.proofs.Numbers.{decimal_from-digit}

is_digit : (d : ℕ) → d < 10 → is_ascii_digit (48 + d) ≡ true
is_digit d h = grind (arith, nat_tests)

one_digit : (v d : ℕ) → d < 10 → decimal_from v ((48 + d) ∷ []) ≡ Some (v * 10 + d)
one_digit v d h =
    decimal_from-digit v (48 + d) [] (is_digit d h) ∙ ap Some (let e : v * 10 + (48 + d - 48) ≡ v * 10 + d = omega arith in e)

none_is_some : {A : Type 0} (w : ℕ) → None ≡ Some w → A
none_is_some w e = absurd (cc e)

pub decimal_from-then : (v w c : ℕ) (ds : List ℕ) → decimal_from v ds ≡ Some w
    → decimal_from v (ds ++ c ∷ []) ≡ decimal_from w (c ∷ [])
decimal_from-then v w c [] e = let same : v ≡ w = cc in ap (λ n. decimal_from n (c ∷ [])) same
decimal_from-then v w c (d ∷ ds) e =
    let go : (b : Bool) → cond b (decimal_from (v * 10 + (d - 48)) ds) None ≡ Some w → cond b (decimal_from (v * 10 + (d - 48)) (ds ++ c ∷ [])) None ≡ decimal_from w (c ∷ [])
    = λ b. elim b as (λ b. cond b (decimal_from (v * 10 + (d - 48)) ds) None ≡ Some w → cond b (decimal_from (v * 10 + (d - 48)) (ds ++ c ∷ [])) None ≡ decimal_from w (c ∷ []))
    [ true ↦ λ h. decimal_from-then (v * 10 + (d - 48)) w c ds h | false ↦ λ h. none_is_some w h ] in
    go (is_ascii_digit d) e

pub decimal_from-decimal : (n : ℕ) → n < 2 ^ 64 → decimal_from 0 (decimal n) ≡ Some n
decimal_from-decimal n h =
    decimal_by_steps (λ n ds. decimal_from 0 ds ≡ Some n)
    (λ n small. one_digit 0 n small ∙ ap Some (let e : 0 * 10 + n ≡ n = omega arith in e))
    (λ n ds big before. decimal_from-then 0 (n / 10) (48 + n % 10) ds before ∙ one_digit (n / 10) (n % 10) (omega arith) ∙ ap Some (let e : n / 10 * 10 + n % 10 ≡ n = omega arith in e))
    n h

digit_small : (d : ℕ) → is_ascii_digit d ≡ true → d - 48 ≤ 9
digit_small d h = grind (arith, nat_tests)

grows : (v x p w : ℕ) → x ≤ 9 → w < (v * 10 + x + 1) * p → w < (v + 1) * (10 * p)
grows v x p w h k = let up : (v * 10 + x + 1) * p ≤ ((v + 1) * 10) * p = mul-le-mul_right p (omega arith) in omega (arith, up, k)

pub decimal_from-below : (v w : ℕ) (ds : List ℕ) → decimal_from v ds ≡ Some w → w < (v + 1) * 10 ^ length ds
decimal_from-below v w [] e = let same : v ≡ w = cc in omega arith
decimal_from-below v w (d ∷ ds) e =
    let go : (b : Bool) → (b ≡ true → d - 48 ≤ 9) → cond b (decimal_from (v * 10 + (d - 48)) ds) None ≡ Some w → w < (v + 1) * 10 ^ suc (length ds)
    = λ b. elim b as
    (λ b. (b ≡ true → d - 48 ≤ 9) → cond b (decimal_from (v * 10 + (d - 48)) ds) None ≡ Some w → w < (v + 1) * 10 ^ suc (length ds))
    [ true ↦ λ s h. rw pow-succ' (grows v (d - 48) (10 ^ length ds) w (s refl) (decimal_from-below (v * 10 + (d - 48)) w ds h)) | false ↦ λ s h. none_is_some w h ] in
    go (is_ascii_digit d) (digit_small d) e

-- a number takes no more digits when it is printed than when it was read
pub length-decimal-read : (v : ℕ) (ds : List ℕ) → decimal_of ds ≡ Some v → v < 2 ^ 64 → length (decimal v) ≤ length ds
length-decimal-read v [] e h = none_is_some v e
length-decimal-read v (d ∷ ds) e h =
    length-decimal-le (length (d ∷ ds)) v (omega arith) (let below = decimal_from-below 0 v (d ∷ ds) e in omega (arith, below)) h
