-- What octets are a message: its elements in any order, each row at most once.
use Rattle.std.specs.Prelude.{◌≡◌, ℕ, ◌+◌, Bool, true, eqb, not, ◌||◌, List, [], ◌∷◌, ◌++◌, length, filter, Option, Some, None}
use Rattle.std.specs.List.{AllByRecursion}
use Rattle.per_bits.specs.Formats.{Format, Value, octet_string, plain, sequence, items, number, must, done, raw}
use Rattle.per_bits.specs.Spelling.{Spells, SpellsWhole, SpellsClosed, SpellsNumber}
use Rattle.s1ap_rows.specs.Rows.{Rows, ie, end, needed, optional, unkept, Slots, Kept}

-- ---- what a message is, whatever the order of its elements

-- an element: id, criticality, octets
abbrev pub Raw : Type 0
Raw = Value raw

abbrev pub id_of : Raw → ℕ
id_of e = e.0

abbrev pub criticality_of : Raw → ℕ
criticality_of e = e.1.0

abbrev pub octets_of : Raw → List ℕ
octets_of e = e.1.1.0

abbrev pub has_id : ℕ → Raw → Bool
has_id id e = eqb (id_of e) id

-- id-GUMMEI-ID, id-CSG-Id and id-CSG-IdList (TS 36.413 clause 9.3.6)
abbrev pub gummei_id : ℕ
gummei_id = 75

abbrev pub csg_id : ℕ
csg_id = 127

abbrev pub csg_id_list : ℕ
csg_id_list = 128

-- elements that may be skipped: those marked ignore or notify, and those three
abbrev pub may_skip : ℕ → ℕ → Bool
may_skip id criticality = not (eqb criticality 0) || (eqb id gummei_id || (eqb id csg_id || eqb id csg_id_list))

-- no element, or one that spells the value
abbrev pub OfRow : (f : Format) → Option (Value f) → List Raw → Type 0
OfRow f None es = es ≡ []
OfRow f (Some v) es = (e : Raw) × (es ≡ e ∷ []) × SpellsWhole f v (octets_of e)

-- each row has its elements, and what is of no row may be skipped
abbrev pub AreElements : (rs : Rows) → Slots rs → List Raw → Type 0
AreElements end slots es = AllByRecursion (λ e. may_skip (id_of e) (criticality_of e) ≡ true) es
AreElements (ie id c p f rs) slots es =
    OfRow f slots.0 (filter (has_id id) es) × AreElements rs slots.1 (filter (λ e. not (has_id id e)) es)

-- what a message has of what was read
abbrev pub IsKept : (rs : Rows) → Slots rs → Kept rs → Type 0
IsKept end slots v = Unit {0}
IsKept (ie id c needed f rs) slots v = (slots.0 ≡ Some v.0) × IsKept rs slots.1 v.1
IsKept (ie id c optional f rs) slots v = (slots.0 ≡ v.0) × IsKept rs slots.1 v.1
IsKept (ie id c unkept f rs) slots v = IsKept rs slots.1 v

-- the elements of a message, as its octets have them
abbrev pub message : Format
message = sequence (must (items 0 65535 raw) done)

abbrev pub IsMessage : (rs : Rows) → Kept rs → List ℕ → Type 0
IsMessage rs v os =
    (es : List Raw) × (slots : Slots rs) × SpellsWhole message (es, tt) os × AreElements rs slots es × IsKept rs slots v

-- ---- frames: kind, code, criticality, octets

abbrev pub body : Format
body = plain (must (number 0 255) (must (number 0 2) (must octet_string done)))

abbrev pub Frame : Type 0
Frame = ℕ × Value body

abbrev pub frame_kind : Frame → ℕ
frame_kind fr = fr.0

abbrev pub frame_code : Frame → ℕ
frame_code fr = fr.1.0

abbrev pub frame_criticality : Frame → ℕ
frame_criticality fr = fr.1.1.0

abbrev pub frame_octets : Frame → List ℕ
frame_octets fr = fr.1.1.1.0

abbrev pub SpellsFrame : Frame → ℕ → List Bool → Type 0
SpellsFrame fr at bs =
    (xs : List Bool) × (ys : List Bool) × (bs ≡ xs ++ ys) × SpellsClosed (SpellsNumber 0 2) fr.0 at xs
    × Spells body fr.1 (at + length xs) ys
