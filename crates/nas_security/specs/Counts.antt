-- NAS COUNTs, of 24 bits, and the estimate of one from its low bits (TS 24.301 clause 4.4.3.1).
use Rattle.std.specs.Prelude.{◌≡◌, ℕ, zero, suc, ◌+◌, ◌-◌, ◌%◌, ◌^◌, ◌<◌, ◌≤◌, ◌==◌, List, [], ◌∷◌, find, Option, Some, None}

-- n, n + 1, .., n + k - 1
abbrev pub counted : ℕ → ℕ → List ℕ
counted n zero = []
counted n (suc k) = n ∷ counted (n + 1) k

-- all counts from n on, in order
abbrev pub counts_from : ℕ → List ℕ
counts_from n = counted n (2 ^ 24 - n)

-- the least count that may be accepted next
abbrev pub first_after : Option ℕ → ℕ
first_after None = 0
first_after (Some last) = last + 1

-- the least count above the last accepted one, from 0 if there is none, whose low bits are these:
-- modulo 2 ^ 8 for eight bits
unfoldable pub estimate : Option ℕ → ℕ → ℕ → Option ℕ
estimate last bits modulus = find (λ n. n % modulus == bits) (counts_from (first_after last))

-- the same as a relation
pub record IsEstimate (last : Option ℕ) (bits modulus n : ℕ) : Type 0 where
  pub above : first_after last ≤ n
  pub fits : n < 2 ^ 24
  pub same : n % modulus ≡ bits
  pub least : (m : ℕ) → first_after last ≤ m → m < n → m % modulus ≡ bits → ⊥
