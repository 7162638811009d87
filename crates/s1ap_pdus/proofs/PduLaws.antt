-- Octets are decoded exactly where they spell a message of a type.
use Rattle.std.proofs.Common.{◌≡◌, ℕ, List, Option, Some, None, Result, Ok, refl, subst}
use Rattle.per_bits.specs.Reading.{whole_at}
use Rattle.s1ap_rows.specs.declared.fault.S1apFault.{S1apFault}
use Rattle.s1ap_rows.specs.Spelling.{IsMessage, Frame, frame_kind, frame_code, frame_octets}
use Rattle.s1ap_rows.specs.Reading.{message_at, frame_at, syntax_of}
use Rattle.s1ap_rows.specs.MessageLaws.{bind_some, syntax_some, message_to, message_from}
use Rattle.s1ap_rows.specs.FrameLaws.{frame_takes, frame_again}
use Rattle.s1ap_pdus.specs.declared.message_type.MessageType.{MessageType}
use Rattle.s1ap_pdus.specs.Profile.{rows_of, type_of}
use Rattle.s1ap_pdus.specs.Typed.{Typed, typed_of, SpellsTyped, read_typed, read_of, decode_typed}

abbrev okay : {A : Type 0} → A → Result A S1apFault
okay x = Ok x

same : {A : Type 0} (x y : A) → okay x ≡ okay y → x ≡ y
same x y e = cc

-- of a type, whose rows spell the message
abbrev IsOf : Option MessageType → Frame → Typed → Type 0
IsOf o fr m = (o ≡ Some m.0) × IsMessage (rows_of m.0) m.1 (frame_octets fr)

read_to : (o : Option MessageType) (fr : Frame) (m : Typed) → read_of o fr ≡ Ok m → IsOf o fr m
unfolding read_typed
read_to None fr m h = absurd cc
read_to (Some t) fr m h =
    let a = bind_some (message_at (rows_of t) (frame_octets fr)) (λ v. okay (typed_of t v)) m h in
    subst (λ (x : Typed). IsOf (Some t) fr x) (same (typed_of t a.0) m a.2) (refl, message_to (rows_of t) a.0 (frame_octets fr) a.1)

read_from : (fr : Frame) (m : Typed) → IsMessage (rows_of m.0) m.1 (frame_octets fr) → read_of (Some m.0) fr ≡ Ok m
unfolding read_typed
read_from fr m h = rw (message_from (rows_of m.0) m.1 (frame_octets fr) h) refl

pub decode_to : (m : Typed) (os : List ℕ) → decode_typed os ≡ Ok m → SpellsTyped m os
unfolding decode_typed
decode_to m os h =
    let a = bind_some (syntax_of (whole_at frame_at os)) (λ fr. read_of (type_of fr.0 fr.1.0) fr) m h in
    let k = read_to (type_of (frame_kind a.0) (frame_code a.0)) a.0 m a.2 in
    (a.0, frame_takes os a.0 (syntax_some (whole_at frame_at os) a.0 a.1), k.0, k.1)

pub decode_from : (m : Typed) (os : List ℕ) → SpellsTyped m os → decode_typed os ≡ Ok m
unfolding decode_typed
decode_from m os s = rw (frame_again os s.0 s.1, s.2) (read_from s.0 m s.3)
