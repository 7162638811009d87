-- Formats of values, as ASN.1 has them, and the values of each.
use Rattle.std.specs.Prelude.{ℕ, suc, Bool, false, List, [], ◌∷◌, Option, ◌⊎◌}
use Rattle.std.proofs.Common.{inl, inr}

abbrev pub left_of : {A B : Type 0} → A → A ⊎ B
left_of a = inl a

abbrev pub right_of : {A B : Type 0} → B → A ⊎ B
right_of b = inr b

-- ---- formats

mutual
  pub data Format : Type 0 where
    -- a whole number from LO to HI
    number : ℕ → ℕ → Format
    -- N octets; from MIN to MAX octets; any number of octets
    octets : ℕ → Format
    octets_between : ℕ → ℕ → Format
    octet_string : Format
    -- N bits; from MIN to MAX bits
    bit_string : ℕ → Format
    bits_between : ℕ → ℕ → Format
    -- names 0 to LAST, and others by an extension bit
    enumerated : ℕ → Format
    -- an extension bit that is 0
    closed : Format → Format
    -- from MIN to MAX values
    items : ℕ → ℕ → Format → Format
    -- a length and a complete encoding
    open_type : Format → Format
    -- fields, without and with an extension bit
    plain : Fields → Format
    sequence : Fields → Format
    -- one of several, with an extension bit
    choice : Alternatives → Format

  -- what a sequence is made of: a field, one that may be absent, one that may stand and is not kept,
  -- a number that must be the one named, and a number that is not compared and is written as the one named
  pub data Fields : Type 0 where
    done : Fields
    must : Format → Fields → Fields
    may : Format → Fields → Fields
    skip : Format → Fields → Fields
    fixed : ℕ → ℕ → ℕ → Fields → Fields
    marked : ℕ → ℕ → ℕ → Fields → Fields

  pub data Alternatives : Type 0 where
    last : Format → Alternatives
    either : Format → Alternatives → Alternatives

abbrev mutual
  pub Value : Format → Type 0
  Value (number lo hi) = ℕ
  Value (octets n) = List ℕ
  Value (octets_between lo hi) = List ℕ
  Value octet_string = List ℕ
  Value (bit_string n) = List Bool
  Value (bits_between lo hi) = List Bool
  Value (enumerated n) = ℕ ⊎ ℕ
  Value (closed f) = Value f
  Value (items lo hi f) = List (Value f)
  Value (open_type f) = Value f
  Value (plain fs) = Values fs
  Value (sequence fs) = Values fs
  Value (choice alts) = Chosen alts

  pub Values : Fields → Type 0
  Values done = Unit {0}
  Values (must f fs) = Value f × Values fs
  Values (may f fs) = Option (Value f) × Values fs
  Values (skip f fs) = Values fs
  Values (fixed lo hi n fs) = Values fs
  Values (marked lo hi n fs) = Values fs

  pub Chosen : Alternatives → Type 0
  Chosen (last f) = Value f
  Chosen (either f alts) = Value f ⊎ Chosen alts

abbrev pub optionals : Fields → ℕ
optionals done = 0
optionals (must f fs) = optionals fs
optionals (may f fs) = suc (optionals fs)
optionals (skip f fs) = suc (optionals fs)
optionals (fixed lo hi n fs) = optionals fs
optionals (marked lo hi n fs) = optionals fs

abbrev pub alternatives : Alternatives → ℕ
alternatives (last f) = 1
alternatives (either f alts) = suc (alternatives alts)

-- the presence bits that are left, the next first
abbrev pub flag_of : List Bool → Bool
flag_of [] = false
flag_of (b ∷ bs) = b

abbrev pub flags_after : List Bool → List Bool
flags_after [] = []
flags_after (b ∷ bs) = bs

-- ---- formats that others are made of

-- an element as it stands in a message: id, criticality, octets
abbrev pub raw : Format
raw = plain (must (number 0 65535) (must (number 0 2) (must octet_string done)))

-- iE-Extensions
abbrev pub extensions : Format
extensions = items 1 65535 raw
