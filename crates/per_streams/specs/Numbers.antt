-- Whole numbers of a range as bits (X.691 clause 11.5).
use Rattle.std.specs.Prelude.{ℕ, ◌+◌, ◌-◌, ◌*◌, ◌^◌, Bool, if◌then◌else◌, nat_lt, List, ◌++◌, length}
use Rattle.per_streams.specs.Bits.{bits, pad}

-- the least number of bits that holds a number below 256
unfoldable pub width_of : ℕ → ℕ
width_of n =
    if nat_lt n 1 then 0
    else if nat_lt n 2 then 1
    else if nat_lt n 4 then 2
    else if nat_lt n 8 then 3
    else if nat_lt n 16 then 4
    else if nat_lt n 32 then 5
    else if nat_lt n 64 then 6
    else if nat_lt n 128 then 7
    else 8

-- the least number of octets, at least 1, that holds a number below 2 ^ 64
unfoldable pub octets_for : ℕ → ℕ
octets_for n =
    if nat_lt n (2 ^ 8) then 1
    else if nat_lt n (2 ^ 16) then 2
    else if nat_lt n (2 ^ 24) then 3
    else if nat_lt n (2 ^ 32) then 4
    else if nat_lt n (2 ^ 40) then 5
    else if nat_lt n (2 ^ 48) then 6
    else if nat_lt n (2 ^ 56) then 7
    else 8

-- the offset of a number in a range whose last offset is span, at a position
unfoldable pub offset_bits : ℕ → ℕ → ℕ → List Bool
offset_bits span offset at =
    if nat_lt span 255 then bits (width_of span) offset
    else if nat_lt span 256 then pad at ++ bits 8 offset
    else if nat_lt span 65536 then pad at ++ bits 16 offset
    else (let count = bits (width_of (octets_for span - 1)) (octets_for offset - 1) in
    count ++ (pad (at + length count) ++ bits (8 * octets_for offset) offset))

-- the whole-number form: a number of lo..hi at a position, padding included
abbrev pub whole : ℕ → ℕ → ℕ → ℕ → List Bool
whole lo hi n at = offset_bits (hi - lo) (n - lo) at
