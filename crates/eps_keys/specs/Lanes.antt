-- What the steps of the cipher do to one lane. An octet is moved: written as two elements of the field of 16, in whose terms its
-- inverse takes four look-ups among 16. These words are the code's own; the cipher is that of Aes.
use Rattle.std.specs.Prelude.{◌≡◌, ℕ, ◌<◌, ◌/◌, ◌%◌, List, ◌||◌, nat_lt, nat_le, if◌then◌else◌, Bool, bit_and, bit_xor, slice_index, length}
use Rattle.eps_keys.specs.declared.lanes.TheConstants.{MOVED_LOW, MOVED_HIGH, INVERSES, QUOTIENTS}

-- sixteen octets
pub record IsOctets (s : List ℕ) : Type 0 where
  pub long : length s ≡ 16
  pub below : (i : ℕ) → slice_index s i < 256

-- a place in a table of sixteen, or one whose octet is 0
abbrev pub is_place : ℕ → Bool
is_place j = nat_le 128 j || nat_lt j 16

abbrev pub looked : List ℕ → ℕ → ℕ
looked table j = if nat_le 128 j then 0 else slice_index table j

-- the octet as its two elements
unfoldable pub moved : ℕ → ℕ
moved x = bit_xor (slice_index MOVED_LOW (x % 16)) (slice_index MOVED_HIGH (x / 16 % 16))

-- of a moved octet: the two elements whose inverses its inverse is made of
abbrev pub place_1 : ℕ → ℕ
place_1 x = bit_xor (looked INVERSES (x / 16)) (looked QUOTIENTS (bit_and x 15))

abbrev pub place_2 : ℕ → ℕ
place_2 x = bit_xor (looked INVERSES (bit_xor (x / 16) (bit_and x 15))) (looked QUOTIENTS (bit_and x 15))

unfoldable pub first_part : ℕ → ℕ
first_part x = bit_xor (looked INVERSES (place_1 x)) (bit_xor (x / 16) (bit_and x 15))

unfoldable pub second_part : ℕ → ℕ
second_part x = bit_xor (looked INVERSES (place_2 x)) (x / 16)

-- round keys as they are kept
abbrev pub masked : ℕ → ℕ
masked x = bit_xor x 0x63

abbrev pub moved_key : ℕ → ℕ
moved_key x = moved (masked x)
