-- When each fault of an S1AP message comes: at the first place from the left at which something can't be taken, and a missing
-- element last (TS 36.413 clause 10.3). What stands to the left of the place was taken: its bits spell it. Of the part at the place
-- alone it is asked what reading gives. `Takes S here a following` says that the bits from one place to the other spell a.
use Rattle.std.specs.Prelude.{◌≡◌, ℕ, ◌+◌, ◌<◌, Bool, true, false, ◌||◌, cond, eqb, List, [], ◌∷◌, ◌++◌, length, Option, Some, None, Result, Ok, Err, ◌⊎◌}
use Rattle.std.specs.List.{AllByRecursion}
use Rattle.per_streams.specs.declared.fault.PerFault.{PerFault}
use Rattle.per_streams.specs.Bits.{Place, start, octet_bits, ◌>>=◌, bit_at, end_at}
use Rattle.per_streams.specs.Each.{SpellsEach}
use Rattle.per_streams.specs.Exact.{Takes}
use Rattle.per_bits.specs.Formats.{Format, raw}
use Rattle.per_bits.specs.Spelling.{Spells, SpellsNumber, SpellsWhole, Whole}
use Rattle.per_bits.specs.Reading.{skipped_at, additions_at, read_at, whole_at, complete_at}
use Rattle.per_streams.specs.Reading.{number_at}
use Rattle.s1ap_rows.specs.declared.criticality.Criticality.{Criticality}
use Rattle.s1ap_rows.specs.declared.fault.S1apFault.{S1apFault}
use Rattle.s1ap_rows.specs.declared.fault.S1apFault.TheVariants.{Syntax, UnknownProcedure, MissingElement, RepeatedElement, RefusedElement, NoMemory}
use Rattle.s1ap_rows.specs.Criticalities.{criticality_named}
use Rattle.s1ap_rows.specs.Rows.{Rows, ie, end, needed, optional, unkept, Slots}
use Rattle.s1ap_rows.specs.Spelling.{Raw, id_of, octets_of, has_id, may_skip, AreElements, message, Frame, SpellsFrame, frame_kind, frame_code, frame_criticality, frame_octets}
use Rattle.s1ap_rows.specs.Reading.{frame_at}
use Rattle.s1ap_pdus.specs.declared.message_type.MessageType.{MessageType}
use Rattle.s1ap_pdus.specs.Profile.{type_of, rows_of}

-- ---- what stands to the left of a place

-- the octets of a message up to a place: its extension bit, the number of its elements, and the elements before the place
pub record UpTo (os : List ℕ) (extended : Bool) (count : ℕ) (es : List Raw) (here : Place) : Type 0 where
  pub number : List Bool
  pub elements : List Bool
  pub whole : octet_bits os ≡ extended ∷ (number ++ (elements ++ here.rest))
  pub at : here.at ≡ 1 + length number + length elements
  pub counted : SpellsNumber 0 65535 count 1 number
  pub each : SpellsEach (Spells raw) es (1 + length number) elements

-- elements that were taken: each is the only one of its row and spells what the row holds, or is of no row and may be skipped
abbrev pub AreTaken : Rows → List Raw → Type 0
AreTaken rs es = (slots : Slots rs) × AreElements rs slots es

-- whether one of the elements has the id
abbrev pub has_element : ℕ → List Raw → Bool
has_element id [] = false
has_element id (e ∷ es) = has_id id e || has_element id es

-- what the row of an id holds
abbrev pub held_by : ℕ → Rows → Option Format
held_by id end = None
held_by id (ie i c p f rs) = cond (eqb id i) (Some f) (held_by id rs)

-- ---- an element that can't be taken, after elements that were

-- the id of a row that one of them has
abbrev pub IsRepeated : Rows → List Raw → Place → ℕ → Type 0
IsRepeated rs es here id =
    (following : Place) × (f : Format)
    × Takes (SpellsNumber 0 65535) here id following × (held_by id rs ≡ Some f) × (has_element id es ≡ true)

-- the id of no row, and a criticality by which it may not be skipped
abbrev pub IsRefused : Rows → Place → ℕ → Type 0
IsRefused rs here id =
    (criticality : ℕ) × (mid : Place) × (following : Place)
    × Takes (SpellsNumber 0 65535) here id mid × Takes (SpellsNumber 0 2) mid criticality following
    × (held_by id rs ≡ None) × (may_skip id criticality ≡ false)

-- the first element of a row, whose octets spell nothing that the row holds
abbrev pub IsMisspelled : Rows → List Raw → Place → PerFault → Type 0
IsMisspelled rs es here fault =
    (e : Raw) × (following : Place) × (f : Format) × Takes (Spells raw) here e following
    × (held_by (id_of e) rs ≡ Some f) × (has_element (id_of e) es ≡ false) × (complete_at f (octets_of e) ≡ Err fault)

-- no element is spelled, and what is spelled of one is neither repeated nor refused
abbrev pub IsNoElement : Rows → List Raw → Place → PerFault → Type 0
IsNoElement rs es here fault =
    (read_at raw here ≡ Err fault) × ((id : ℕ) → IsRepeated rs es here id → ⊥) × ((id : ℕ) → IsRefused rs here id → ⊥)

-- what keeps an element from being taken
abbrev pub ElementFault : Rows → List Raw → Place → S1apFault → Type 0
ElementFault rs es here (RepeatedElement id) = IsRepeated rs es here id
ElementFault rs es here (RefusedElement id) = IsRefused rs here id
ElementFault rs es here (Syntax fault) = IsMisspelled rs es here fault ⊎ IsNoElement rs es here fault
ElementFault rs es here fault = ⊥

-- ---- a message of rows

-- a message's extension bit and the number of its elements
abbrev pub head_at : Place → Result ((Bool × ℕ) × Place) PerFault
head_at s = do
  extended ← bit_at s
  count ← number_at 0 65535 extended.1
  Ok ((extended.0, count.0), count.1)

-- what stands after its elements: additions, where the extension bit is 1, and the end
abbrev pub tail_at : Bool → Place → Result (Unit {0} × Place) PerFault
tail_at extended s = do
  more ← skipped_at extended additions_at s
  end_at more.1

-- a place among its elements, with those before it taken
pub record Reached (rs : Rows) (os : List ℕ) : Type 0 where
  pub extended : Bool
  pub count : ℕ
  pub es : List Raw
  pub here : Place
  pub up_to : UpTo os extended count es here
  pub taken : AreTaken rs es

-- an element can't be taken
abbrev pub FailsAtElement : Rows → List ℕ → S1apFault → Type 0
FailsAtElement rs os fault = (r : Reached rs os) × (length r.es < r.count) × ElementFault rs r.es r.here fault

-- all elements were taken, and what stands after them isn't spelled
abbrev pub FailsAfterElements : Rows → List ℕ → PerFault → Type 0
FailsAfterElements rs os fault = (r : Reached rs os) × (length r.es ≡ r.count) × (tail_at r.extended r.here ≡ Err fault)

-- the ids of the rows that must have an element, in their order
abbrev pub needed_ids : Rows → List ℕ
needed_ids end = []
needed_ids (ie id c needed f rs) = id ∷ needed_ids rs
needed_ids (ie id c optional f rs) = needed_ids rs
needed_ids (ie id c unkept f rs) = needed_ids rs

-- the first of them that no element has
abbrev pub IsFirstMissing : Rows → List Raw → ℕ → Type 0
IsFirstMissing rs es id =
    (before : List ℕ) × (after : List ℕ) × (needed_ids rs ≡ before ++ (id ∷ after))
    × AllByRecursion (λ i. has_element i es ≡ true) before × (has_element id es ≡ false)

-- the octets are elements that were all taken, and a row lacks its element
abbrev pub LacksElement : Rows → List ℕ → ℕ → Type 0
LacksElement rs os id = (es : List Raw) × SpellsWhole message (es, tt) os × AreTaken rs es × IsFirstMissing rs es id

-- the fault of octets as a message of the rows
abbrev pub HasMessageFault : Rows → List ℕ → S1apFault → Type 0
HasMessageFault rs os (Syntax fault) =
    (head_at (start os) ≡ Err fault) ⊎ (FailsAtElement rs os (Syntax fault) ⊎ FailsAfterElements rs os fault)
HasMessageFault rs os (RepeatedElement id) = FailsAtElement rs os (RepeatedElement id)
HasMessageFault rs os (RefusedElement id) = FailsAtElement rs os (RefusedElement id)
HasMessageFault rs os (MissingElement id) = LacksElement rs os id
HasMessageFault rs os fault = ⊥

-- ---- a message in its frame

-- the frame is that of a message, and the fault in it
abbrev pub FailsInFrame : List ℕ → S1apFault → Type 0
FailsInFrame os fault =
    (fr : Frame) × (t : MessageType) × Whole SpellsFrame fr os × (type_of (frame_kind fr) (frame_code fr) ≡ Some t)
    × HasMessageFault (rows_of t) (frame_octets fr) fault

-- the frame is that of no message
abbrev pub IsUnknownProcedure : List ℕ → Criticality → Type 0
IsUnknownProcedure os criticality =
    (fr : Frame) × Whole SpellsFrame fr os × (type_of (frame_kind fr) (frame_code fr) ≡ None)
    × (criticality ≡ criticality_named (frame_criticality fr))

-- the octets have the fault: no octets have two, and none that spell a message
abbrev pub HasS1apFault : List ℕ → S1apFault → Type 0
HasS1apFault os (Syntax fault) = (whole_at frame_at os ≡ Err fault) ⊎ FailsInFrame os (Syntax fault)
HasS1apFault os (UnknownProcedure criticality) = IsUnknownProcedure os criticality
HasS1apFault os NoMemory = ⊥
HasS1apFault os fault = FailsInFrame os fault
