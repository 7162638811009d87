-- Rows of messages, and the values that they have.
use Rattle.std.specs.Prelude.{ℕ, ◌+◌, Bool, true, false, eqb, not, ◌&&◌, ◌||◌, Option, None}
use Rattle.per_bits.specs.Formats.{Format, Value}
use Rattle.s1ap_rows.specs.declared.criticality.Criticality.{Criticality}

-- ---- rows

-- whether a row must have an element, may have one, or may have one that is not kept
pub data Presence : Type 0 where
  needed : Presence
  optional : Presence
  unkept : Presence

-- the rows of a message: id, criticality, presence, and what it holds
pub data Rows : Type 0 where
  end : Rows
  ie : ℕ → Criticality → Presence → Format → Rows → Rows

-- what was read of each row so far
abbrev pub Slots : Rows → Type 0
Slots end = Unit {0}
Slots (ie id c p f rs) = Option (Value f) × Slots rs

-- what a message has
abbrev pub Kept : Rows → Type 0
Kept end = Unit {0}
Kept (ie id c needed f rs) = Value f × Kept rs
Kept (ie id c optional f rs) = Option (Value f) × Kept rs
Kept (ie id c unkept f rs) = Kept rs

-- how many rows there are
abbrev pub row_count : Rows → ℕ
row_count end = 0
row_count (ie id c p f rs) = row_count rs + 1

abbrev pub no_slots : (rs : Rows) → Slots rs
no_slots end = tt
no_slots (ie id c p f rs) = (None, no_slots rs)

-- ---- rows whose ids differ

-- whether there is a row with the id
abbrev pub has_row : ℕ → Rows → Bool
has_row id end = false
has_row id (ie i c p f rs) = eqb i id || has_row id rs

-- whether the ids of rows differ
abbrev pub are_distinct : Rows → Bool
are_distinct end = true
are_distinct (ie id c p f rs) = not (has_row id rs) && are_distinct rs
