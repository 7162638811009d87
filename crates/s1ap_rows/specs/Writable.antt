-- Which messages have a written spelling: each value in its open type, the elements as a whole, and the open type around them.
use Rattle.std.specs.Prelude.{ℕ, Bool, true, ◌&&◌, List, [], ◌∷◌, Some, None}
use Rattle.per_streams.specs.Bits.{padded}
use Rattle.per_bits.specs.Formats.{Format, Value, open_type}
use Rattle.per_bits.specs.Written.{written, writable}
use Rattle.s1ap_rows.specs.declared.criticality.Criticality.{Criticality}
use Rattle.s1ap_rows.specs.Criticalities.{criticality_number}
use Rattle.s1ap_rows.specs.Rows.{Rows, ie, end, needed, optional, unkept, Kept}
use Rattle.s1ap_rows.specs.Spelling.{Raw, message}

-- an element as it is written: id, criticality, octets
abbrev pub raw_of : ℕ → Criticality → (f : Format) → Value f → Raw
raw_of id c f v = (id, (criticality_number c, (padded (written f v 0), tt)))

-- the elements of a message as they are written
abbrev pub elements_of : (rs : Rows) → Kept rs → List Raw
elements_of end v = []
elements_of (ie id c needed f rs) v = raw_of id c f v.0 ∷ elements_of rs v.1
elements_of (ie id c optional f rs) (None, v) = elements_of rs v
elements_of (ie id c optional f rs) (Some x, v) = raw_of id c f x ∷ elements_of rs v
elements_of (ie id c unkept f rs) v = elements_of rs v

-- whether each value is writable
abbrev pub values_fit : (rs : Rows) → Kept rs → Bool
values_fit end v = true
values_fit (ie id c needed f rs) v = writable f v.0 && values_fit rs v.1
values_fit (ie id c optional f rs) (None, v) = values_fit rs v
values_fit (ie id c optional f rs) (Some x, v) = writable f x && values_fit rs v
values_fit (ie id c unkept f rs) v = values_fit rs v

-- whether a message is: each value is, and its elements are, at most 65535 of them with at most 16383 octets each, and so
-- is the open type around them, of at most 16383 octets (X.691 clause 11.9)
abbrev pub message_fits : (rs : Rows) → Kept rs → Bool
message_fits rs v = values_fit rs v && writable (open_type message) (elements_of rs v, tt)
