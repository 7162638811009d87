-- A frame is read exactly where it is spelled, and what is written of it spells it.
use Rattle.std.proofs.Common.{◌≡◌, ℕ, ◌+◌, Bool, false, List, [], ◌∷◌, ◌++◌, length, Result, Ok, refl, ap, subst, ◌∙◌, append_assoc}
use Rattle.std.proofs.lemmas.List.{append-nil, length-append}
use Rattle.per_streams.specs.declared.fault.PerFault.{PerFault}
use Rattle.per_streams.specs.declared.fault.PerFault.TheVariants.{Alternative}
use Rattle.per_streams.specs.Bits.{◌>>=◌}
use Rattle.per_bits.specs.Formats.{closed, number}
use Rattle.per_bits.specs.Spelling.{Spells, SpellsClosed, SpellsNumber, Whole}
use Rattle.per_bits.specs.Reading.{closed_at, read_at, whole_at}
use Rattle.per_streams.specs.Reading.{number_at}
use Rattle.per_bits.specs.Writing.{write_at, write_string, write_whole}
use Rattle.per_streams.specs.Writing.{write_number}
use Rattle.per_streams.specs.BitLaws.{bind_ok}
use Rattle.per_streams.specs.Exact.{Exact}
use Rattle.per_bits.specs.FormatLaws.{exact, exact_pair, exact_closed, exact_number, whole_takes, whole_again}
use Rattle.per_bits.specs.WritingLaws.{Adds, written, whole_written}
use Rattle.s1ap_rows.specs.Spelling.{body, Frame, SpellsFrame}
use Rattle.s1ap_rows.specs.Reading.{frame_at}
use Rattle.s1ap_rows.specs.Writing.{write_frame, write_head}

-- ---- reading

pub exact_frame : Exact SpellsFrame frame_at
unfolding frame_at
exact_frame =
    exact_pair (SpellsClosed (SpellsNumber 0 2)) (Spells body) (closed_at Alternative (number_at 0 2)) (read_at body)
    (exact_closed Alternative (SpellsNumber 0 2) (number_at 0 2) (exact_number 0 2)) (exact body)

pub frame_takes : (os : List ℕ) (fr : Frame) → whole_at frame_at os ≡ Ok fr → Whole SpellsFrame fr os
frame_takes os fr h = whole_takes SpellsFrame frame_at exact_frame os fr h

pub frame_again : (os : List ℕ) (fr : Frame) → Whole SpellsFrame fr os → whole_at frame_at os ≡ Ok fr
frame_again os fr s = whole_again SpellsFrame frame_at exact_frame os fr s

-- ---- writing

abbrev write_framed : Frame → List Bool → Result (List Bool) PerFault
write_framed fr out = write_frame fr.0 fr.1.0 fr.1.1.0 fr.1.1.1.0 out

body_same : (a b d new : List Bool) (code c : ℕ) (os : List ℕ) → write_number 0 255 code a ≡ Ok b → write_number 0 2 c b ≡ Ok d
    → write_string os d ≡ Ok new → write_at body (code, (c, (os, tt))) a ≡ Ok new
body_same a b d new code c os p q r = rw (append-nil a, p, q, r) refl

frame_adds : (fr : Frame) (out new : List Bool) → write_framed fr out ≡ Ok new → Adds SpellsFrame fr out new
frame_adds fr out new h =
    let kind = fr.0 in let code = fr.1.0 in let c = fr.1.1.0 in let os = fr.1.1.1.0 in
    let head = bind_ok (write_head kind code c out) (write_string os) new h in
    let a =
    bind_ok (write_number 0 2 kind (out ++ false ∷ []))
    (λ a. write_number 0 255 code a >>= λ b. write_number 0 2 c b) head.0 head.1 in
    let b = bind_ok (write_number 0 255 code a.0) (write_number 0 2 c) head.0 a.2 in
    let p = written (closed (number 0 2)) kind out a.0 a.1 in
    let q = written body fr.1 a.0 new (body_same a.0 b.0 head.0 new code c os b.1 b.2 head.2) in
    let at : length a.0 ≡ length out + length p.bits = ap length p.parts ∙ length-append out p.bits in
    record {
      bits = p.bits ++ q.bits;
      parts = q.parts ∙ ap (λ (l : List Bool). l ++ q.bits) p.parts ∙ append_assoc out p.bits q.bits;
      spelled = (p.bits, q.bits, refl, p.spelled, subst (λ n. Spells body fr.1 n q.bits) at q.spelled);
    }

pub frame_written : (fr : Frame) (os : List ℕ) → write_whole write_framed fr ≡ Ok os → Whole SpellsFrame fr os
frame_written fr os h = whole_written SpellsFrame write_framed frame_adds fr os h
