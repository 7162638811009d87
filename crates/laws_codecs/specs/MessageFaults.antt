-- The components of an S1AP message beside its elements (TS 36.413 clause 9.3): of its frame, and of what stands before and after
-- the elements. Where `HasS1apFault` asks what reading gives of one of these, the components say it.
use Rattle.std.specs.Prelude.{ℕ, Bool, List}
use Rattle.per_streams.specs.declared.fault.PerFault.TheVariants.{Alternative}
use Rattle.per_streams.specs.Bits.{Place}
use Rattle.per_bits.specs.FormatLaws.{IsBit}
use Rattle.per_bits.specs.Spelling.{SpellsAdditions, SpellsClosed, SpellsNumber}
use Rattle.s1ap_rows.specs.Spelling.{SpellsFrame, body}
use Rattle.laws_codecs.specs.Components.{Component, any_bits}
use Rattle.laws_codecs.specs.PerFaults.{AdditionComponents, Alone, ClosedComponents, Components, ComponentsOf, EndComponents, InOrder, IsSkipped, Nowhere, NumberComponents, Whether, WholeComponents}

-- a frame: which of the three kinds, in a CHOICE; then code, criticality and the octets of the message
abbrev pub FrameComponents : List ℕ → Component → Place → Type 0
FrameComponents os =
    WholeComponents SpellsFrame
    (InOrder (SpellsClosed (SpellsNumber 0 2)) (ClosedComponents Alternative (NumberComponents 0 2)) (λ kind. ComponentsOf body)) os

-- a message's extension bit and the number of its elements
abbrev pub HeadComponents : Components
HeadComponents = InOrder IsBit (Alone (any_bits 1)) (λ extended. NumberComponents 0 65535)

-- what stands after its elements: additions, where the extension bit is 1, and the end
abbrev pub TailComponents : Bool → Components
TailComponents extended =
    InOrder (IsSkipped extended SpellsAdditions) (Whether extended AdditionComponents Nowhere) (λ u. EndComponents)
