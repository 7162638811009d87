-- Decimal digits, from the front.
use Rattle.std.proofs.Common.{suc, ◌≡◌, ℕ, ◌+◌, ◌*◌, ◌-◌, ◌<◌, true, false, cond, List, [], ◌∷◌, length, get_or, drop, None, refl, arith, add-one, drop-cons}
use Rattle.std.specs.Char.{is_ascii_digit}
use Rattle.std.proofs.lemmas.Bool.Decides.{nat_tests}
use Rattle.trace_words.specs.Trace.{decimal_from, capped}

pub decimal_from-digit : (v c : ℕ) (cs : List ℕ) → is_ascii_digit c ≡ true
    → decimal_from v (c ∷ cs) ≡ decimal_from (v * 10 + (c - 48)) cs
decimal_from-digit v c cs h = rw h refl

pub digit_more : (v i : ℕ) (s : List ℕ) → i < length s → is_ascii_digit (get_or s i 0) ≡ true
    → decimal_from v (drop i s) ≡ decimal_from (v * 10 + (get_or s i 0 - 48)) (drop (i + 1) s)
digit_more v i s h d = rw (add-one, drop-cons s i 0) (decimal_from-digit v (get_or s i 0) (drop (suc i) s) d)

-- the value never falls
pub capped-over : (most v : ℕ) (cs : List ℕ) → most < v → capped most (decimal_from v cs) ≡ None
capped-over most v [] h = grind (arith, nat_tests)
capped-over most v (c ∷ cs) h =
    let ih = capped-over most (v * 10 + (c - 48)) cs (omega arith) in
    elim (is_ascii_digit c) as (λ b. capped most (cond b (decimal_from (v * 10 + (c - 48)) cs) None) ≡ None) [ true ↦ ih | false ↦ refl ]
