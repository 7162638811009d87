-- Digits as a number, modulo 1024.
use Rattle.std.proofs.Common.{suc, ◌≡◌, ℕ, ◌+◌, ◌*◌, ◌-◌, ◌%◌, ◌<◌, List, [], ◌∷◌, length, get_or, drop, arith, add-one, drop-cons}
use Rattle.mme_types.specs.Pdus.{number_from}

-- only the remainder of what stands before matters
pub same_remainder : (v w : ℕ) (cs : List ℕ) → v % 1024 ≡ w % 1024 → number_from v cs % 1024 ≡ number_from w cs % 1024
same_remainder v w [] e = e
same_remainder v w (c ∷ cs) e = same_remainder (v * 10 + (c - 48)) (w * 10 + (c - 48)) cs (omega (arith, e))

pub digit_more : (v i : ℕ) (s : List ℕ) → i < length s
    → number_from v (drop i s) % 1024 ≡ number_from ((v * 10 + (get_or s i 0 - 48)) % 1024) (drop (i + 1) s) % 1024
digit_more v i s h =
    rw (add-one, drop-cons s i 0)
    (same_remainder (v * 10 + (get_or s i 0 - 48)) ((v * 10 + (get_or s i 0 - 48)) % 1024) (drop (suc i) s) (omega arith))
