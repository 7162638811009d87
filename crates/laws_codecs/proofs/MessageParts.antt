-- Reading tells the components of a message beside its elements.
use Rattle.std.proofs.Common.{◌≡◌, ℕ, Bool, List, Err, ◌↔◌}
use Rattle.per_streams.specs.declared.fault.PerFault.{PerFault}
use Rattle.per_streams.specs.declared.fault.PerFault.TheVariants.{Alternative}
use Rattle.per_streams.specs.Bits.{Place, ◌>>=◌, start, bit_at, end_at}
use Rattle.per_bits.specs.FormatLaws.{IsBit, exact_additions, exact_bit, exact_closed, exact_number, exact_skipped}
use Rattle.per_bits.specs.Reading.{additions_at, closed_at, read_at, skipped_at, whole_at}
use Rattle.per_bits.specs.Spelling.{SpellsAdditions, SpellsClosed, SpellsNumber}
use Rattle.per_streams.specs.Reading.{number_at}
use Rattle.s1ap_rows.specs.FrameLaws.{exact_frame}
use Rattle.s1ap_rows.specs.Reading.{frame_at}
use Rattle.s1ap_rows.specs.Spelling.{Frame, SpellsFrame, body}
use Rattle.laws_codecs.specs.S1apFaults.{head_at, tail_at}
use Rattle.laws_codecs.specs.Components.{any_bits}
use Rattle.laws_codecs.specs.MessageFaults.{FrameComponents, HeadComponents, TailComponents}
use Rattle.laws_codecs.specs.PerFaults.{AdditionComponents, Alone, ClosedComponents, ComponentsOf, EndComponents, HasFaultAmong, InOrder, IsSkipped, Nowhere, NumberComponents, Whether}
use Rattle.laws_codecs.proofs.Outcomes.{good}
use Rattle.laws_codecs.proofs.Telling.{Tells, tells_bind, tells_map}
use Rattle.laws_codecs.proofs.Bits.{tells_bit, tells_end}
use Rattle.laws_codecs.proofs.Closing.{tells_additions, tells_closed}
use Rattle.laws_codecs.proofs.Numbers.{tells_number}
use Rattle.laws_codecs.proofs.Wholes.{tells_skipped, tells_whole}
use Rattle.laws_codecs.proofs.Formats.{tells}

-- ---- the frame

tells_frame : (s : Place)
    → Tells
    (InOrder (SpellsClosed (SpellsNumber 0 2)) (ClosedComponents Alternative (NumberComponents 0 2)) (λ kind. ComponentsOf body) s)
    (frame_at s)
unfolding frame_at
tells_frame s =
    tells_bind (SpellsClosed (SpellsNumber 0 2)) (ClosedComponents Alternative (NumberComponents 0 2)) (λ kind. ComponentsOf body)
    (closed_at Alternative (number_at 0 2))
    (λ kind t. read_at body t >>= λ rest. good {A = Frame × Place} ((kind, rest.0), rest.1)) s
    (exact_closed Alternative (SpellsNumber 0 2) (number_at 0 2) (exact_number 0 2))
    (tells_closed Alternative (NumberComponents 0 2) (number_at 0 2) (tells_number 0 2) s)
    (λ kind t k. tells_map (ComponentsOf body t) (read_at body t) (λ rest. ((kind, rest.0), rest.1)) (tells body t))

-- ---- before the elements

tells_head : (s : Place) → Tells (HeadComponents s) (head_at s)
tells_head s =
    tells_bind IsBit (Alone (any_bits 1)) (λ extended. NumberComponents 0 65535) bit_at
    (λ extended t. number_at 0 65535 t >>= λ count. good {A = (Bool × ℕ) × Place} ((extended, count.0), count.1)) s exact_bit
    (tells_bit s)
    (λ extended t k. tells_map (NumberComponents 0 65535 t) (number_at 0 65535 t) (λ count. ((extended, count.0), count.1))
    (tells_number 0 65535 t))

-- ---- after them

tells_tail : (extended : Bool) (s : Place) → Tells (TailComponents extended s) (tail_at extended s)
tells_tail extended s =
    tells_bind (IsSkipped extended SpellsAdditions) (Whether extended AdditionComponents Nowhere) (λ u. EndComponents)
    (skipped_at extended additions_at) (λ u t. end_at t) s (exact_skipped extended SpellsAdditions additions_at exact_additions)
    (tells_skipped extended AdditionComponents additions_at tells_additions s) (λ u t k. tells_end t)

-- ---- the law

pub frame_fault : (os : List ℕ) (fault : PerFault) → (whole_at frame_at os ≡ Err fault) ↔ HasFaultAmong (FrameComponents os) fault
frame_fault os fault =
    let k =
    tells_whole SpellsFrame
    (InOrder (SpellsClosed (SpellsNumber 0 2)) (ClosedComponents Alternative (NumberComponents 0 2)) (λ kind. ComponentsOf body))
    frame_at exact_frame tells_frame os in
    (λ e. k.named fault e, λ p. k.answered fault p)

pub head_fault : (os : List ℕ) (fault : PerFault)
    → (head_at (start os) ≡ Err fault) ↔ HasFaultAmong (HeadComponents (start os)) fault
head_fault os fault = let k = tells_head (start os) in (λ e. k.named fault e, λ p. k.answered fault p)

pub tail_fault : (extended : Bool) (s : Place) (fault : PerFault)
    → (tail_at extended s ≡ Err fault) ↔ HasFaultAmong (TailComponents extended s) fault
tail_fault extended s fault = let k = tells_tail extended s in (λ e. k.named fault e, λ p. k.answered fault p)
