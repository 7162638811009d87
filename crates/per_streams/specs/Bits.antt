-- Bits and numbers, the most significant bit first; and what reading them from a place gives.
use Rattle.std.specs.Prelude.{◌≡◌, ℕ, zero, suc, ◌+◌, ◌-◌, ◌*◌, ◌/◌, ◌^◌, ◌%◌, ◌<◌, ◌≤◌, get_or, Bool, true, false, if◌then◌else◌, nat_le, nat_lt, ◌==◌, List, [], ◌∷◌, ◌++◌, length, take, drop, replicate, Result, Ok, Err}
use Rattle.std.specs.List.{flat_map}
use Rattle.per_streams.specs.declared.fault.PerFault.{PerFault}
use Rattle.per_streams.specs.declared.fault.PerFault.TheVariants.{Truncated, Padding, NotFewest, Fragmented, Trailing}
use Rattle.per_streams.specs.declared.fault.PerError.{PerError}
use Rattle.per_streams.specs.declared.fault.PerError.TheVariants as errors

-- the number that bits stand for
unfoldable pub value : List Bool → ℕ
value [] = 0
value (true ∷ bs) = 2 ^ length bs + value bs
value (false ∷ bs) = value bs

-- a number below 2 ^ width in that many bits
unfoldable pub bits : ℕ → ℕ → List Bool
bits zero n = []
bits (suc w) n = if nat_le (2 ^ w) n then true ∷ bits w (n - 2 ^ w) else false ∷ bits w n

abbrev pub octet_bits : List ℕ → List Bool
octet_bits os = flat_map (bits 8) os

-- the octets that N times eight bits stand for
unfoldable pub octets_of_bits : ℕ → List Bool → List ℕ
octets_of_bits zero bs = []
octets_of_bits (suc n) bs = value (take 8 bs) ∷ octets_of_bits n (drop 8 bs)

abbrev pub IsBytes : List ℕ → Type 0
IsBytes xs = (i : ℕ) → get_or xs i 0 < 256

-- a place in an encoding: how many bits stand before it, and those from it on
pub record Place : Type 0 where
  pub at : ℕ
  pub rest : List Bool

-- an encoding from its beginning
abbrev pub start : List ℕ → Place
start os = record { at = 0; rest = octet_bits os }

-- the bits from a place to the next octet
abbrev pub padding : ℕ → ℕ
padding at = (8 - at % 8) % 8

abbrev pub pad : ℕ → List Bool
pad at = replicate (padding at) false

-- ---- reading

infixl 10 ◌>>=◌
abbrev pub ◌>>=◌ : {A B : Type 0} → Result A PerFault → (A → Result B PerFault) → Result B PerFault
(Ok x) >>= f = f x
(Err e) >>= f = Err e

unfoldable pub take_at : ℕ → Place → Result (List Bool × Place) PerFault
take_at n s =
    if nat_lt (length s.rest) n then Err Truncated
    else Ok (take n s.rest, record { at = s.at + n; rest = drop n s.rest })

unfoldable pub align_at : Place → Result (Unit {0} × Place) PerFault
align_at s = do
  x ← take_at (padding s.at) s
  if value x.0 == 0 then Ok (tt, x.1) else Err Padding

-- What a function returned, seen by view, is what reading gives, unless memory ran out.
abbrev pub Fails : {Y : Type 0} → PerError → Result Y PerFault → Type 0
Fails errors.NoMemory read = Unit {0}
Fails (errors.Fault f) read = read ≡ Err f

abbrev pub Gives : {X Y : Type 0} → (X → Y) → Result X PerError → Place → Result (Y × Place) PerFault → Type 0
Gives view (Ok x) after read = read ≡ Ok (view x, after)
Gives view (Err e) after read = Fails e read

-- the same of a function that takes no memory
abbrev pub Answers : {X Y : Type 0} → (X → Y) → Result X PerFault → Place → Result (Y × Place) PerFault → Type 0
Answers view (Ok x) after read = read ≡ Ok (view x, after)
Answers view (Err f) after read = read ≡ Err f

-- the next bit
abbrev pub first_bit : ℕ → List Bool → Result (Bool × Place) PerFault
first_bit at [] = Err Truncated
first_bit at (b ∷ bs) = Ok (b, record { at = at + 1; rest = bs })

abbrev pub bit_at : Place → Result (Bool × Place) PerFault
bit_at s = first_bit s.at s.rest

-- the number that the next bits stand for
abbrev pub number_bits_at : ℕ → Place → Result (ℕ × Place) PerFault
number_bits_at n s = do
  x ← take_at n s
  Ok (value x.0, x.1)

-- N octets
unfoldable pub whole_octets_at : ℕ → Place → Result (List ℕ × Place) PerFault
whole_octets_at n s = do
  x ← take_at (8 * n) s
  Ok (octets_of_bits n x.0, x.1)

unfoldable pub aligned_octets_at : ℕ → Place → Result (List ℕ × Place) PerFault
aligned_octets_at n s = do
  a ← align_at s
  whole_octets_at n a.1

unfoldable pub aligned_bits_at : ℕ → Place → Result (List Bool × Place) PerFault
aligned_bits_at n s = do
  a ← align_at s
  take_at n a.1

-- zero padding up to the next octet, and nothing after it
unfoldable pub end_at : Place → Result (Unit {0} × Place) PerFault
end_at s = do
  a ← align_at s
  if length a.1.rest == 0 then Ok a else Err Trailing

-- some of the next bits, at most N: how many, and the number that they stand for; all, where they lie in one octet
abbrev pub TakesPart : ℕ → Result (ℕ × ℕ) PerFault → Place → Place → Type 0
TakesPart most (Ok p) old new = (1 ≤ p.0) × (p.0 ≤ most) × (p.0 ≤ 8) × (number_bits_at p.0 old ≡ Ok (p.1, new))
    × (most ≤ 8 - old.at % 8 → p.0 ≡ most)
TakesPart most (Err f) old new = (f ≡ Truncated) × (old.rest ≡ [])

-- ---- lengths without a bound, and open types

abbrev pub long_length_at : ℕ → Place → Result (ℕ × Place) PerFault
long_length_at first s = do
  second ← number_bits_at 8 s
  if nat_lt ((first - 128) * 256 + second.0) 128 then Err NotFewest else Ok ((first - 128) * 256 + second.0, second.1)

unfoldable pub length_at : Place → Result (ℕ × Place) PerFault
length_at s = do
  a ← align_at s
  first ← number_bits_at 8 a.1
  if nat_lt first.0 128 then Ok first else if nat_lt first.0 192 then long_length_at first.0 first.1 else Err Fragmented

unfoldable pub open_at : Place → Result (List ℕ × Place) PerFault
open_at s = do
  n ← length_at s
  aligned_octets_at n.0 n.1

-- ---- writing

-- bits as octets, zero bits up to the last octet's end
unfoldable pub padded : List Bool → List ℕ
padded bs = octets_of_bits ((length bs + 7) / 8) (bs ++ pad (length bs))
