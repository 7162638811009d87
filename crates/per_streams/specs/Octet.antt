-- Octet and bit strings of a length.
use Rattle.std.specs.Prelude.{◌+◌, ◌-◌, ◌*◌, ◌^◌, ◌<◌, ◌≤◌, ◌≡◌, ℕ, Bool, true, nat_lt, ◌==◌, ◌&&◌, List, [], ◌∷◌, length}

abbrev pub all_below : ℕ → List ℕ → Bool
all_below n [] = true
all_below n (x ∷ xs) = nat_lt x n && all_below n xs

abbrev pub AreBytes : ℕ → List ℕ → Type 0
AreBytes n os = ((length os) == n && all_below 256 os) ≡ true

abbrev pub IsLong : ℕ → List Bool → Type 0
IsLong n bs = (length bs) == n ≡ true

-- N octets and some more bits, which are a number, make from MIN to MAX bits
abbrev pub IsString : ℕ → ℕ → ℕ → ℕ → ℕ → Type 0
IsString lo hi octets last more = (more < 8) × (last < 2 ^ more) × (lo ≤ 8 * octets + more) × (8 * octets + more - lo ≤ hi - lo)
