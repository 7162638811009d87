-- Writing a message: its rows in their order.
use Rattle.std.specs.Prelude.{ℕ, ◌+◌, Bool, false, List, [], ◌∷◌, ◌++◌, length, Option, Some, None, Result, Ok}
use Rattle.per_streams.specs.declared.fault.PerFault.{PerFault}
use Rattle.per_streams.specs.Bits.{◌>>=◌, bits, pad}
use Rattle.per_bits.specs.Formats.{Format, Value}
use Rattle.per_bits.specs.Writing.{write_element, write_string, write_whole}
use Rattle.per_streams.specs.Writing.{write_number}
use Rattle.s1ap_rows.specs.declared.criticality.Criticality.{Criticality}
use Rattle.s1ap_rows.specs.Criticalities.{criticality_number}
use Rattle.s1ap_rows.specs.Rows.{Rows, ie, end, needed, optional, unkept, Kept}

-- an element of a row, where there is one
abbrev pub write_some : ℕ → Criticality → (f : Format) → Option (Value f) → List Bool → Result (List Bool) PerFault
write_some id c f None out = Ok out
write_some id c f (Some v) out = write_element id (criticality_number c) f v out

abbrev pub one_if : {A : Type 0} → Option A → ℕ
one_if None = 0
one_if (Some v) = 1

-- how many elements there are, and as many more
abbrev pub count_of : (rs : Rows) → Kept rs → ℕ → ℕ
count_of end v n = n
count_of (ie id c needed f rs) v n = count_of rs v.1 (n + 1)
count_of (ie id c optional f rs) v n = count_of rs v.1 (n + one_if v.0)
count_of (ie id c unkept f rs) v n = count_of rs v n

abbrev pub write_rows : (rs : Rows) → Kept rs → List Bool → Result (List Bool) PerFault
write_rows end v out = Ok out
write_rows (ie id c needed f rs) v out = do
  first ← write_element id (criticality_number c) f v.0 out
  write_rows rs v.1 first
write_rows (ie id c optional f rs) v out = do
  first ← write_some id c f v.0 out
  write_rows rs v.1 first
write_rows (ie id c unkept f rs) v out = write_rows rs v out

abbrev pub write_message : (rs : Rows) → Kept rs → List Bool → Result (List Bool) PerFault
write_message rs v out = do
  counted ← write_number 0 65535 (count_of rs v 0) (out ++ false ∷ [])
  write_rows rs v counted

-- what stands before the octets of a message: its kind, its procedure's code and its criticality
abbrev pub write_head : ℕ → ℕ → ℕ → List Bool → Result (List Bool) PerFault
write_head kind code c out = do
  a ← write_number 0 2 kind (out ++ false ∷ [])
  b ← write_number 0 255 code a
  write_number 0 2 c b

-- the frame around a message
abbrev pub write_frame : ℕ → ℕ → ℕ → List ℕ → List Bool → Result (List Bool) PerFault
write_frame kind code c os out = do
  head ← write_head kind code c out
  write_string os head

abbrev pub write_pdu : ℕ → ℕ → ℕ → (rs : Rows) → Kept rs → Result (List ℕ) PerFault
write_pdu kind code c rs v = do
  os ← write_whole (write_message rs) v
  write_whole (write_frame kind code c) os

-- ---- the same where it is to stand

-- what stands before the elements of a message: its head, an octet for its length, and how many elements there are
abbrev pub write_front : ℕ → ℕ → ℕ → ℕ → Result (List Bool) PerFault
write_front kind code c count = do
  head ← write_head kind code c []
  write_number 0 65535 count (((head ++ pad (length head)) ++ bits 8 0) ++ false ∷ [])
