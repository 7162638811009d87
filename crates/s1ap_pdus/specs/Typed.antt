-- A message by its type and the values of its rows: which octets spell it, what reading gives, and what is written.
use Rattle.std.specs.Prelude.{◌≡◌, ℕ, List, Option, Some, None, Result, Ok, Err}
use Rattle.per_streams.specs.declared.fault.PerFault.{PerFault}
use Rattle.per_bits.specs.Spelling.{Whole}
use Rattle.per_bits.specs.Reading.{whole_at}
use Rattle.s1ap_rows.specs.declared.fault.S1apFault.{S1apFault}
use Rattle.s1ap_rows.specs.declared.fault.S1apFault.TheVariants.{UnknownProcedure}
use Rattle.s1ap_rows.specs.Criticalities.{criticality_named, criticality_number}
use Rattle.s1ap_rows.specs.Rows.{Kept}
use Rattle.s1ap_rows.specs.Spelling.{Frame, SpellsFrame, IsMessage, frame_kind, frame_code, frame_criticality, frame_octets}
use Rattle.s1ap_rows.specs.Reading.{◌>>>◌, frame_at, message_at, syntax_of}
use Rattle.s1ap_rows.specs.Writing.{write_pdu}
use Rattle.s1ap_pdus.specs.declared.message_type.MessageType.{MessageType}
use Rattle.s1ap_pdus.specs.Profile.{type_of, rows_of, kind_of, code_of, criticality_of}

abbrev pub Typed : Type 0
Typed = (t : MessageType) × Kept (rows_of t)

abbrev pub typed_of : (t : MessageType) → Kept (rows_of t) → Typed
typed_of t v = (t, v)

-- octets that spell a message: its frame, of the kind and code of its type, and its rows
abbrev pub SpellsTyped : Typed → List ℕ → Type 0
SpellsTyped m os =
    (fr : Frame) × Whole SpellsFrame fr os × (type_of (frame_kind fr) (frame_code fr) ≡ Some m.0)
    × IsMessage (rows_of m.0) m.1 (frame_octets fr)

-- ---- reading

unfoldable pub read_typed : MessageType → List ℕ → Result Typed S1apFault
read_typed t os = message_at (rows_of t) os >>> λ v. Ok (typed_of t v)

abbrev pub read_of : Option MessageType → Frame → Result Typed S1apFault
read_of None fr = Err (UnknownProcedure (criticality_named (frame_criticality fr)))
read_of (Some t) fr = read_typed t (frame_octets fr)

-- the message that octets spell, or the first fault
unfoldable pub decode_typed : List ℕ → Result Typed S1apFault
decode_typed os = syntax_of (whole_at frame_at os) >>> λ fr. read_of (type_of (frame_kind fr) (frame_code fr)) fr

-- ---- writing

-- the octets of a message, or Range where it is not writable
unfoldable pub encode_typed : Typed → Result (List ℕ) PerFault
encode_typed m = write_pdu (kind_of m.0) (code_of m.0) (criticality_number (criticality_of m.0)) (rows_of m.0) m.1
