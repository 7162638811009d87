-- The digits of an IMSI, their octets and their text.
use Rattle.std.specs.Prelude.{ℕ, ◌+◌, ◌-◌, ◌*◌, ◌/◌, ◌%◌, ◌==◌, ◌&&◌, ◌||◌, Bool, nat_lt, nat_le, if◌then◌else◌, List, [], ◌∷◌, ◌++◌, length, map, take, slice_index, Option, Some, None}
use Rattle.std.specs.List.{list_all}

abbrev pub are_digits : List ℕ → Bool
are_digits ds = list_all (λ d. nat_lt d 10) ds

-- fifteen half octets: digits, and as the last one f where there are fourteen digits
unfoldable pub is_imsi : List ℕ → Bool
is_imsi ds = length ds == 15 && (are_digits (take 14 ds) && (nat_lt (slice_index ds 14) 10 || slice_index ds 14 == 15))

-- bit 4 where the number of digits is odd, and the type 1
abbrev pub imsi_type : List ℕ → ℕ
imsi_type ds = if slice_index ds 14 == 15 then 1 else 9

-- the first digit and the type; then digits two by two, the low half first
unfoldable pub imsi_octets : List ℕ → List ℕ
imsi_octets ds =
    (slice_index ds 0 * 16 + imsi_type ds) ∷ (slice_index ds 2 * 16 + slice_index ds 1) ∷ (slice_index ds 4 * 16 + slice_index ds 3)
    ∷ (slice_index ds 6 * 16 + slice_index ds 5) ∷ (slice_index ds 8 * 16 + slice_index ds 7)
    ∷ (slice_index ds 10 * 16 + slice_index ds 9) ∷ (slice_index ds 12 * 16 + slice_index ds 11)
    ∷ (slice_index ds 14 * 16 + slice_index ds 13) ∷ []

unfoldable pub imsi_checked : List ℕ → ℕ → Option (List ℕ)
imsi_checked ds kind = if is_imsi ds && kind == imsi_type ds then Some ds else None

abbrev pub half_octets : List ℕ → List ℕ
half_octets os =
    slice_index os 0 / 16 ∷ slice_index os 1 % 16 ∷ slice_index os 1 / 16 ∷ slice_index os 2 % 16 ∷ slice_index os 2 / 16
    ∷ slice_index os 3 % 16 ∷ slice_index os 3 / 16 ∷ slice_index os 4 % 16 ∷ slice_index os 4 / 16 ∷ slice_index os 5 % 16
    ∷ slice_index os 5 / 16 ∷ slice_index os 6 % 16 ∷ slice_index os 6 / 16 ∷ slice_index os 7 % 16 ∷ slice_index os 7 / 16 ∷ []

unfoldable pub imsi_of : List ℕ → Option (List ℕ)
imsi_of os = if length os == 8 then imsi_checked (half_octets os) (slice_index os 0 % 16) else None

-- ---- text

-- without the filler
abbrev pub digits_of : List ℕ → List ℕ
digits_of ds = if slice_index ds 14 == 15 then take 14 ds else ds

unfoldable pub imsi_text : List ℕ → List ℕ
imsi_text ds = map (λ d. 48 + d) (digits_of ds)

abbrev pub is_digit : ℕ → Bool
is_digit b = nat_le 48 b && nat_le b 57

-- fourteen or fifteen digits
abbrev pub is_digit_text : List ℕ → Bool
is_digit_text bs = (length bs == 14 || length bs == 15) && list_all is_digit bs

-- the filler after fourteen digits
abbrev pub filled : List ℕ → List ℕ
filled ds = take 15 (ds ++ 15 ∷ [])

unfoldable pub imsi_of_text : List ℕ → Option (List ℕ)
imsi_of_text bs = if is_digit_text bs then Some (filled (map (λ b. b - 48) bs)) else None
