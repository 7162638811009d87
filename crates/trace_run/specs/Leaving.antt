-- What stands of the progress where a line is refused.
use Rattle.std.specs.Prelude.{◌≡◌, ◌⊎◌, ℕ, Bool, false, not, List, [], ◌∷◌, replicate, Option, Some, None, is_some}
use Rattle.identity_slots.specs.Provisioned.{slot_of_imsi}
use Rattle.mme_core.specs.declared.event.Event.{Event}
use Rattle.mme_core.specs.declared.event.Event.TheVariants as event
use Rattle.trace_words.specs.declared.line.Line.{Line}
use Rattle.trace_words.specs.declared.line.Line.TheVariants.{Skip, Mme, Sub, Vec, Up, Lost, In, Tick, Data, Cancel, Show}
use Rattle.trace_progress.specs.declared.fault.PlayFault.{PlayFault}
use Rattle.trace_progress.specs.declared.fault.PlayFault.TheVariants.{Trace, Read, Write, NoMemory}
use Rattle.trace_progress.specs.declared.progress.Progress.{Progress}
use Rattle.trace_progress.specs.declared.progress.Progress.TheVariants.{Nothing, Provisioning, Running}
use Rattle.trace_progress.specs.Acts.{IsUnmade}
use Rattle.trace_progress.specs.Effects.{in_event}
use Rattle.trace_progress.specs.Stopping.{HasTaken, RunsOn}

-- ---- what a line says to an MME

-- its events, in order; a question has none. A line that provisions and an empty one speak to no MME
abbrev pub events_of_line : Line → Option (List Event)
events_of_line Skip = None
events_of_line (Mme network) = None
events_of_line (Sub profile) = None
events_of_line (Vec imsi vector) = None
events_of_line (Up e) = Some (event.Up e ∷ [])
events_of_line (Lost e) = Some (event.Lost e ∷ [])
events_of_line (In e octets) = Some (in_event e octets ∷ [])
events_of_line (Tick n) = Some (replicate n event.Tick)
events_of_line (Data imsi) = Some (event.Data imsi ∷ [])
events_of_line (Cancel imsi) = Some (event.Cancel imsi ∷ [])
events_of_line (Show imsi) = Some []

-- an MME is still to be made, and nobody with this IMSI is provisioned for it
abbrev pub is_missing : Progress → List ℕ → Bool
is_missing Nothing imsi = false
is_missing (Provisioning config provisioned) imsi = not (is_some (slot_of_imsi imsi provisioned.profiles))
is_missing (Running world) imsi = false

-- ---- what is left

-- a line that says these events to an MME is refused with that fault: at a fault of its own all is as it was, and so it is where a
-- line speaks to no MME
abbrev pub LeftAtFault : Option (List Event) → Progress → PlayFault → Progress → Type 0
LeftAtFault None old fault new = new ≡ old
LeftAtFault (Some events) old (Trace line fault) new = new ≡ old
LeftAtFault (Some events) old NoMemory new = IsUnmade old new ⊎ RunsOn (HasTaken events) old new
LeftAtFault (Some events) old Write new = RunsOn (HasTaken events) old new
LeftAtFault (Some events) old Read new = ⊥

-- a line is refused with that fault
abbrev pub LeftByLine : Progress → Line → PlayFault → Progress → Type 0
LeftByLine old line fault new = LeftAtFault (events_of_line line) old fault new
