-- Where the fault is in bits that spell no value of a format: at the leftmost component that has no spelling at its place (X.691,
-- 11/2008). A component stands at a place only where all to its left is spelled: `Takes S s a t` says that the bits from s to t
-- spell a. So which components stand is said by what spells the parts before them, and not by what reads them.
use Rattle.std.specs.Prelude.{◌≡◌, ℕ, zero, suc, ◌+◌, ◌-◌, ◌*◌, ◌<◌, Bool, true, false, nat_lt, List, [], ◌∷◌, length, ◌⊎◌}
use Rattle.per_streams.specs.declared.fault.PerFault.{PerFault}
use Rattle.per_streams.specs.declared.fault.PerFault.TheVariants.{Range, Alternative}
use Rattle.per_streams.specs.Bits.{Place, start}
use Rattle.per_streams.specs.Each.{SpellsEach}
use Rattle.per_streams.specs.Exact.{Takes, IsBits}
use Rattle.per_streams.specs.OctetLaws.{IsPad}
use Rattle.per_streams.specs.Numbers.{width_of, octets_for}
use Rattle.per_bits.specs.BaseLaws.{IsSmall}
use Rattle.per_bits.specs.FormatLaws.{IsBit}
use Rattle.per_bits.specs.Formats.{Format, Fields, Alternatives, optionals, alternatives, flag_of, flags_after, number, octets, octets_between, octet_string, bit_string, bits_between, enumerated, closed, items, open_type, plain, sequence, choice, done, must, may, skip, fixed, marked, last, either}
use Rattle.per_bits.specs.Spelling.{Spells, SpellsClosed, SpellsFields, SpellsLength, SpellsNumber, SpellsOptional, SpellsSkipped, SpellsString, trues}
use Rattle.laws_codecs.specs.Components.{Component, any_bits, padding_bits, zero_bit, number_bits, number_octets, length_octet, second_length_octet, same_number, end_of_octets, HasSpelling, IsFaultOf}

-- which components a part of an encoding has: the place where the part begins, a component, and the place where that stands
abbrev pub Components : Type 1
Components = Place → Component → Place → Type 0

-- none
abbrev pub Nowhere : Components
Nowhere s c here = ⊥

-- one, where the part begins
abbrev pub Alone : Component → Components
Alone k s c here = (c ≡ k) × (here ≡ s)

-- those of a part and, where the part is spelled, those of what follows it
abbrev pub InOrder : {A : Type 0} → (A → ℕ → List Bool → Type 0) → Components → (A → Components) → Components
InOrder {A} S P Q s c here = P s c here ⊎ ((a : A) × (t : Place) × Takes S s a t × Q a t c here)

-- those of one part or of another, by a bit or a bound
abbrev pub Whether : Bool → Components → Components → Components
Whether true P Q = P
Whether false P Q = Q

-- N values one after the other: those of the next, after some that are spelled
abbrev pub NextOf : {A : Type 0} → (A → ℕ → List Bool → Type 0) → Components → ℕ → Components
NextOf {A} S P n s c here = (before : List A) × (t : Place) × (length before < n) × Takes (SpellsEach S) s before t × P t c here

-- ---- numbers and strings

-- a number of at most MOST in N bits, from the next octet on
abbrev pub AlignedNumber : ℕ → ℕ → Components
AlignedNumber most n = InOrder IsPad (Alone padding_bits) (λ u. Alone (number_bits most n))

-- the number of its octets, less one; padding; and the number in them (X.691 clause 11.5)
abbrev pub LargeNumber : ℕ → Components
LargeNumber most =
    let more = octets_for most - 1 in
    InOrder (IsSmall more (width_of more)) (Alone (number_bits more (width_of more)))
    (λ n. InOrder IsPad (Alone padding_bits) (λ u. Alone (number_octets most (n + 1))))

-- what a number is above the least of its range, by how many values the range has (X.691 clause 11.5)
abbrev pub OffsetComponents : ℕ → Components
OffsetComponents most =
    Whether (nat_lt most 255) (Alone (number_bits most (width_of most)))
    (Whether (nat_lt most 256) (AlignedNumber most 8) (Whether (nat_lt most 65536) (AlignedNumber most 16) (LargeNumber most)))

-- a number of LO to HI
abbrev pub NumberComponents : ℕ → ℕ → Components
NumberComponents lo hi = OffsetComponents (hi - lo)

-- N bits from the next octet on
abbrev pub AlignedBits : ℕ → Components
AlignedBits n = InOrder IsPad (Alone padding_bits) (λ u. Alone (any_bits n))

-- a length without a bound: a first octet and, where that is 128 or more, a second (X.691 clause 11.9)
abbrev pub LengthComponents : Components
LengthComponents =
    InOrder IsPad (Alone padding_bits)
    (λ u. InOrder (IsSmall 191 8) (Alone length_octet)
    (λ first. Whether (nat_lt first 128) Nowhere (Alone (second_length_octet first))))

-- a length, and as many octets from the next octet on (X.691 clause 17)
abbrev pub StringComponents : Components
StringComponents = InOrder SpellsLength LengthComponents (λ n. AlignedBits (8 * n))

-- ---- extension bits

-- the bit 0
abbrev pub IsZeroBit : Unit {0} → ℕ → List Bool → Type 0
IsZeroBit u at bs = bs ≡ false ∷ []

-- a bit that is 0, else the fault; and what follows it
abbrev pub ClosedComponents : PerFault → Components → Components
ClosedComponents fault P = InOrder IsZeroBit (Alone (zero_bit fault)) (λ u. P)

-- a normally small number (X.691 clause 11.6)
abbrev pub SmallNumber : Components
SmallNumber = ClosedComponents Range (NumberComponents 0 63)

-- extension additions: their number, a presence bit each, and the octets of each that stands (X.691 clause 19.7)
abbrev pub AdditionComponents : Components
AdditionComponents =
    InOrder (SpellsClosed (SpellsNumber 0 63)) SmallNumber
    (λ more. InOrder (IsBits (more + 1)) (Alone (any_bits (more + 1)))
    (λ flags. NextOf SpellsString StringComponents (trues flags)))

-- ---- complete encodings

-- padding to the end of an octet, and nothing after it
abbrev pub EndComponents : Components
EndComponents = InOrder IsPad (Alone padding_bits) (λ u. Alone end_of_octets)

-- those of octets that are to spell one value; their places are counted from the first of these octets (X.691 clause 11.1)
abbrev pub WholeComponents : {A : Type 0} → (A → ℕ → List Bool → Type 0) → Components → List ℕ → Component → Place → Type 0
WholeComponents S P os = InOrder S P (λ v. EndComponents) (start os)

-- ---- every format

-- something that is not kept
abbrev pub IsSkipped : {A : Type 0} → Bool → (A → ℕ → List Bool → Type 0) → Unit {0} → ℕ → List Bool → Type 0
IsSkipped present S u at bs = SpellsSkipped present S at bs

-- no bits, where the number that was spelled is the one that must stand
abbrev pub IsSame : ℕ → ℕ → Unit {0} → ℕ → List Bool → Type 0
IsSame m n u at bs = (m ≡ n) × (bs ≡ [])

-- strings of up to two octets and of up to 16 bits aren't aligned (X.691 clauses 16 and 17); an extension bit of 1 is read of an
-- ENUMERATED and of a SEQUENCE, and is a fault elsewhere
abbrev mutual
  pub ComponentsOf : (f : Format) → Components
  ComponentsOf (number lo hi) s c here = NumberComponents lo hi s c here
  ComponentsOf (octets n) s c here = Whether (nat_lt n 3) (Alone (any_bits (8 * n))) (AlignedBits (8 * n)) s c here
  ComponentsOf (octets_between lo hi) s c here =
      InOrder (SpellsNumber lo hi) (NumberComponents lo hi) (λ n. AlignedBits (8 * n)) s c here
  ComponentsOf octet_string s c here = StringComponents s c here
  ComponentsOf (bit_string n) s c here = Whether (nat_lt n 17) (Alone (any_bits n)) (AlignedBits n) s c here
  ComponentsOf (bits_between lo hi) s c here = InOrder (SpellsNumber lo hi) (NumberComponents lo hi) AlignedBits s c here
  ComponentsOf (enumerated n) s c here =
      InOrder IsBit (Alone (any_bits 1)) (λ extended. Whether extended SmallNumber (NumberComponents 0 n)) s c here
  ComponentsOf (closed f) s c here = ClosedComponents Range (ComponentsOf f) s c here
  ComponentsOf (items lo hi f) s c here =
      InOrder (SpellsNumber lo hi) (NumberComponents lo hi) (λ n. NextOf (Spells f) (ComponentsOf f) n) s c here
  ComponentsOf (open_type f) s c here =
      InOrder SpellsString StringComponents (λ os t. WholeComponents (Spells f) (ComponentsOf f) os) s c here
  ComponentsOf (plain fs) s c here =
      InOrder (IsBits (optionals fs)) (Alone (any_bits (optionals fs))) (λ flags. FieldComponents fs flags) s c here
  ComponentsOf (sequence fs) s c here =
      InOrder (IsBits (suc (optionals fs))) (Alone (any_bits (suc (optionals fs))))
      (λ flags. InOrder (SpellsFields fs (flags_after flags)) (FieldComponents fs (flags_after flags))
      (λ v. Whether (flag_of flags) AdditionComponents Nowhere)) s c here
  ComponentsOf (choice alts) s c here =
      InOrder (SpellsClosed (SpellsNumber 0 (alternatives alts - 1)))
      (ClosedComponents Alternative (NumberComponents 0 (alternatives alts - 1))) (λ i. ChosenComponents alts i) s c here

  pub FieldComponents : (fs : Fields) → List Bool → Components
  FieldComponents done flags s c here = ⊥
  FieldComponents (must f fs) flags s c here =
      InOrder (Spells f) (ComponentsOf f) (λ v. FieldComponents fs flags) s c here
  FieldComponents (may f fs) flags s c here =
      InOrder (SpellsOptional (flag_of flags) (Spells f)) (Whether (flag_of flags) (ComponentsOf f) Nowhere)
      (λ v. FieldComponents fs (flags_after flags)) s c here
  FieldComponents (skip f fs) flags s c here =
      InOrder (IsSkipped (flag_of flags) (Spells f)) (Whether (flag_of flags) (ComponentsOf f) Nowhere)
      (λ u. FieldComponents fs (flags_after flags)) s c here
  FieldComponents (fixed lo hi n fs) flags s c here =
      InOrder (SpellsNumber lo hi) (NumberComponents lo hi)
      (λ m. InOrder (IsSame m n) (Alone (same_number m n)) (λ u. FieldComponents fs flags)) s c here
  FieldComponents (marked lo hi n fs) flags s c here =
      InOrder (SpellsNumber lo hi) (NumberComponents lo hi) (λ any. FieldComponents fs flags) s c here

  pub ChosenComponents : (alts : Alternatives) → ℕ → Components
  ChosenComponents (last f) i s c here = ComponentsOf f s c here
  ChosenComponents (either f alts) zero s c here = ComponentsOf f s c here
  ChosenComponents (either f alts) (suc i) s c here = ChosenComponents alts i s c here

-- ---- the fault

-- the leftmost component without a spelling: it stands at a place, so all to its left is spelled; it has no spelling there; and the
-- fault is its own
pub record HasFaultAmong (R : Component → Place → Type 0) (fault : PerFault) : Type 0 where
  pub component : Component
  pub place : Place
  pub stands : R component place
  pub unspelled : HasSpelling component place → ⊥
  pub wrong : IsFaultOf component place fault

-- the fault of the bits from a place on, as a value of the format
abbrev pub HasPerFault : Format → Place → PerFault → Type 0
HasPerFault f s fault = HasFaultAmong (ComponentsOf f s) fault

-- the fault of octets as one complete encoding
abbrev pub HasWholeFault : Format → List ℕ → PerFault → Type 0
HasWholeFault f os fault = HasFaultAmong (WholeComponents (Spells f) (ComponentsOf f) os) fault
