-- What the bits of a value are made of: which bits spell each component, and what can be wrong with it where it stands (X.691,
-- 11/2008).
use Rattle.std.specs.Prelude.{◌≡◌, ◌≢◌, ℕ, ◌+◌, ◌-◌, ◌*◌, ◌^◌, ◌<◌, ◌≤◌, Bool, true, false, List, [], ◌∷◌, ◌++◌, length, take, drop, replicate, ◌⊎◌, ⊤}
use Rattle.per_streams.specs.declared.fault.PerFault.{PerFault}
use Rattle.per_streams.specs.declared.fault.PerFault.TheVariants.{Truncated, Padding, Range, NotFewest, Fragmented, Trailing, Alternative}
use Rattle.per_streams.specs.Bits.{Place, padding, value}

-- the smallest parts of an encoding
pub data Component : Type 0 where
  -- N bits, each 0 or 1: presence bits, and the bits and octets of strings
  any_bits : ℕ → Component
  -- the bits up to the next octet, all 0
  padding_bits : Component
  -- a bit that is 0; where it is 1, that is the fault named
  zero_bit : PerFault → Component
  -- a number of at most MOST, in N bits (clause 11.5)
  number_bits : ℕ → ℕ → Component
  -- a number of at most MOST, in N octets, the fewest that hold it (clause 11.5)
  number_octets : ℕ → ℕ → Component
  -- the first octet of a length without a bound; where its first two bits are 1 it counts a fragment (clause 11.9)
  length_octet : Component
  -- the second octet of a length, after the first, where the first alone doesn't hold it (clause 11.9)
  second_length_octet : ℕ → Component
  -- no bits: the number M that was spelled is the number N that must stand
  same_number : ℕ → ℕ → Component
  -- no bits: the end of a complete encoding
  end_of_octets : Component

-- how many bits it has, by how many stand before it
abbrev pub component_width : Component → ℕ → ℕ
component_width (any_bits n) at = n
component_width padding_bits at = padding at
component_width (zero_bit fault) at = 1
component_width (number_bits most n) at = n
component_width (number_octets most n) at = 8 * n
component_width length_octet at = 8
component_width (second_length_octet first) at = 8
component_width (same_number m n) at = 0
component_width end_of_octets at = 0

-- its bits spell it, with what follows them
abbrev pub SpellsComponent : Component → List Bool → List Bool → Type 0
SpellsComponent (any_bits n) bs following = ⊤
SpellsComponent padding_bits bs following = bs ≡ replicate (length bs) false
SpellsComponent (zero_bit fault) bs following = bs ≡ false ∷ []
SpellsComponent (number_bits most n) bs following = value bs ≤ most
SpellsComponent (number_octets most n) bs following = (value bs ≤ most) × (1 < n → 2 ^ (8 * (n - 1)) ≤ value bs)
SpellsComponent length_octet bs following = value bs < 192
SpellsComponent (second_length_octet first) bs following = 128 ≤ (first - 128) * 256 + value bs
SpellsComponent (same_number m n) bs following = m ≡ n
SpellsComponent end_of_octets bs following = following ≡ []

-- it has a spelling at a place: the bits that it has are left there, and spell it
abbrev pub HasSpelling : Component → Place → Type 0
HasSpelling c s =
    (bs : List Bool) × (following : List Bool)
    × (s.rest ≡ bs ++ following) × (length bs ≡ component_width c s.at) × SpellsComponent c bs following

-- what is wrong with its bits, or with what follows them
abbrev pub IsBroken : Component → List Bool → List Bool → PerFault → Type 0
IsBroken (any_bits n) bs following fault = ⊥
IsBroken padding_bits bs following fault = (fault ≡ Padding) × (bs ≢ replicate (length bs) false)
IsBroken (zero_bit named) bs following fault = (fault ≡ named) × (bs ≡ true ∷ [])
IsBroken (number_bits most n) bs following fault = (fault ≡ Range) × (most < value bs)
IsBroken (number_octets most n) bs following fault =
    ((fault ≡ Range) × (most < value bs)) ⊎ ((fault ≡ NotFewest) × (1 < n) × (value bs < 2 ^ (8 * (n - 1))))
IsBroken length_octet bs following fault = (fault ≡ Fragmented) × (192 ≤ value bs)
IsBroken (second_length_octet first) bs following fault = (fault ≡ NotFewest) × ((first - 128) * 256 + value bs < 128)
IsBroken (same_number m n) bs following fault = (fault ≡ Range) × (m ≢ n)
IsBroken end_of_octets bs following fault = (fault ≡ Trailing) × (following ≢ [])

-- what is wrong with a component at a place: fewer bits are left than it has, or those that are left break it
abbrev pub IsWrong : Component → Place → PerFault → Type 0
IsWrong c s fault =
    ((fault ≡ Truncated) × (length s.rest < component_width c s.at))
    ⊎ IsBroken c (take (component_width c s.at) s.rest) (drop (component_width c s.at) s.rest) fault

-- the number of each fault, as `PerFault` has it
abbrev pub fault_number : PerFault → ℕ
fault_number Truncated = 1
fault_number Padding = 2
fault_number Range = 3
fault_number NotFewest = 4
fault_number Fragmented = 5
fault_number Trailing = 6
fault_number Alternative = 7

-- the fault of a component at a place: of what is wrong with it there, that with the lowest number
abbrev pub IsFaultOf : Component → Place → PerFault → Type 0
IsFaultOf c s fault = IsWrong c s fault × ((other : PerFault) → IsWrong c s other → fault_number fault ≤ fault_number other)
