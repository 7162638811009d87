-- A message: its mandatory part, and which elements of the optional part are kept.
use Rattle.std.specs.Prelude.{◌≡◌, ℕ, ◌+◌, ◌%◌, slice_index, ◌==◌, ◌&&◌, nat_le, Bool, true, false, not, List, [], ◌∷◌, ◌++◌, Option, Some, None, Result, Ok, if◌then◌else◌}
use Rattle.nas_elements.specs.declared.fault.NasFault.{NasFault}
use Rattle.nas_elements.specs.declared.fault.NasFault.TheVariants.{TooShort, Mandatory, UnknownType, OptionalPart, NoMemory}
use Rattle.nas_elements.specs.declared.rule.Domain.{Domain}
use Rattle.nas_elements.specs.declared.rule.Element.{Element}
use Rattle.nas_elements.specs.Faults.{◌>>>◌, mandatory_part, optional_part}
use Rattle.nas_elements.specs.Parts.{Part, Values, SpellsParts, read_parts, write_parts, Fit}
use Rattle.nas_elements.specs.Optionals.{AreElements, elements, first, rule_of, write_by, FitsBy}

-- what is kept of the optional part
pub data Keep : Type 0 where
  element : ℕ → Keep  -- the octets of the first element with this identifier
  flag : ℕ → Keep  -- bit 1 of the first element with this identifier, which is one octet

pub record Row : Type 0 where
  pub parts : List Part
  pub domain : Domain
  pub kept : List Keep

abbrev pub iei_of : Keep → ℕ
iei_of (element i) = i
iei_of (flag i) = i

abbrev pub KeepValue : Keep → Type 0
KeepValue (element i) = Option (List ℕ)
KeepValue (flag i) = Bool

abbrev pub is_set : Option (List ℕ) → Bool
is_set None = false
is_set (Some os) = slice_index os 0 % 2 == 1

-- what is kept of the first element with the identifier
abbrev pub kept_from : (k : Keep) → Option (List ℕ) → KeepValue k
kept_from (element i) o = o
kept_from (flag i) o = is_set o

-- the element that is written
abbrev pub as_written : (k : Keep) → KeepValue k → Option (List ℕ)
as_written (element i) o = o
as_written (flag i) b = if b then Some ((i + 1) ∷ []) else None

abbrev pub Kept : List Keep → Type 0
Kept [] = Unit {0}
Kept (k ∷ ks) = KeepValue k × Kept ks

abbrev pub firsts : (ks : List Keep) → List (Element (List ℕ)) → Kept ks
firsts [] es = tt
firsts (k ∷ ks) es = (kept_from k (first (iei_of k) es), firsts ks es)

abbrev pub RowValue : Row → Type 0
RowValue r = Values r.parts × Kept r.kept

-- the mandatory part, and then elements
pub record SpellsRow (r : Row) (v : RowValue r) (os : List ℕ) : Type 0 where
  pub front : List ℕ
  pub rest : List ℕ
  pub found : List (Element (List ℕ))
  pub whole : os ≡ front ++ rest
  pub mandatory : SpellsParts r.parts v.0 front
  pub optional : AreElements r.domain found rest
  pub kept : v.1 ≡ firsts r.kept found

unfoldable pub read_row : (r : Row) → List ℕ → Result (RowValue r) NasFault
read_row r os =
    mandatory_part (read_parts r.parts os) >>> λ x.
    optional_part (elements r.domain x.1) >>> λ es.
    Ok (x.0, firsts r.kept es)

-- ---- when each fault comes

-- no front spells the mandatory part
abbrev pub LacksMandatory : Row → List ℕ → Type 0
LacksMandatory r os = (v : Values r.parts) (front rest : List ℕ) → os ≡ front ++ rest → SpellsParts r.parts v front → ⊥

-- a front spells the mandatory part, and no elements part the rest
abbrev pub LacksElements : Row → List ℕ → Type 0
LacksElements r os = (v : Values r.parts) × (front : List ℕ) × (rest : List ℕ) × (os ≡ front ++ rest) × SpellsParts r.parts v front
    × ((es : List (Element (List ℕ))) → AreElements r.domain es rest → ⊥)

abbrev pub RowFault : Row → List ℕ → NasFault → Type 0
RowFault r os TooShort = ⊥
RowFault r os Mandatory = LacksMandatory r os
RowFault r os UnknownType = ⊥
RowFault r os OptionalPart = LacksElements r os
RowFault r os NoMemory = ⊥

-- ---- writing

abbrev pub write_optional : Domain → ℕ → Option (List ℕ) → List ℕ
write_optional domain i None = []
write_optional domain i (Some os) = write_by (rule_of domain i) i os

abbrev pub write_kept : Domain → (ks : List Keep) → Kept ks → List ℕ
write_kept domain [] v = []
write_kept domain (k ∷ ks) v = write_optional domain (iei_of k) (as_written k v.0) ++ write_kept domain ks v.1

abbrev pub write_row : (r : Row) → RowValue r → List ℕ
write_row r v = write_parts r.parts v.0 ++ write_kept r.domain r.kept v.1

abbrev pub OptionalFits : Domain → ℕ → Option (List ℕ) → Type 0
OptionalFits domain i None = Unit {0}
OptionalFits domain i (Some os) = FitsBy (rule_of domain i) i os

abbrev pub KeptFit : Domain → (ks : List Keep) → Kept ks → Type 0
KeptFit domain [] v = Unit {0}
KeptFit domain (k ∷ ks) v = OptionalFits domain (iei_of k) (as_written k v.0) × KeptFit domain ks v.1

abbrev pub contains : ℕ → List Keep → Bool
contains i [] = false
contains i (k ∷ ks) = if i == iei_of k then true else contains i ks

-- a flag's identifier is that of an element of one octet, and has a low half of zero
abbrev pub is_sound : Keep → Bool
is_sound (element i) = true
is_sound (flag i) = nat_le 128 i && i % 16 == 0

-- no identifier is kept twice
abbrev pub are_distinct : List Keep → Bool
are_distinct [] = true
are_distinct (k ∷ ks) = (not (contains (iei_of k) ks) && is_sound k) && are_distinct ks

abbrev pub RowFits : (r : Row) → RowValue r → Type 0
RowFits r v = Fit r.parts v.0 × KeptFit r.domain r.kept v.1
