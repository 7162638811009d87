-- The UE security capability.
use Rattle.std.specs.Prelude.{ℕ, ◌/◌, ◌%◌, ◌==◌, ◌&&◌, Bool, nat_le, if◌then◌else◌, List, [], ◌∷◌, length, slice_index, Option, Some, None}

-- from 2 to 13 octets (TS 24.301 clause 9.9.3.34)
unfoldable pub capability_of : List ℕ → Option (List ℕ)
capability_of os = if nat_le 2 (length os) && nat_le (length os) 13 then Some os else None

-- what the network replays: the octets of the EPS algorithms, and of the UMTS algorithms where they are there, the last
-- with its bit 8 zero (TS 24.301 clause 8.2.20)
unfoldable pub replayed : List ℕ → List ℕ
replayed os =
    if nat_le 4 (length os)
    then slice_index os 0 ∷ slice_index os 1 ∷ slice_index os 2 ∷ (slice_index os 3 % 128) ∷ []
    else slice_index os 0 ∷ slice_index os 1 ∷ []

-- bit 6 of the octet of the EPS integrity algorithms
abbrev pub has_eia2 : List ℕ → Bool
has_eia2 os = slice_index os 1 / 32 % 2 == 1
