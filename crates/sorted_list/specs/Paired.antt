-- A key of two parts, of which the first decides.
use Rattle.std.specs.Prelude.{◌≡◌, ℕ, ◌+◌, ◌*◌, ◌^◌, ◌<◌}

-- the number of two parts of 64 bits, and of two of 32 bits
abbrev pub paired : ℕ → ℕ → ℕ
paired high low = high * 2 ^ 64 + low

abbrev pub paired_short : ℕ → ℕ → ℕ
paired_short high low = high * 2 ^ 32 + low

-- the first part decides the order, of one first part the second, and no two keys have one number
abbrev pub IsOrder : ℕ → (ℕ → ℕ → ℕ) → Type 0
IsOrder limit pair =
    (a b c d : ℕ) → b < limit → d < limit
    → (a < c → pair a b < pair c d) × (b < d → pair a b < pair a d) × (pair a b ≡ pair c d → (a ≡ c) × (b ≡ d))
