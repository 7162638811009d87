-- The fault of a line of a trace in a script: of an event, of a question, and of what says nothing.
use Rattle.std.proofs.Common.{◌≡◌, ℕ, Bool, List, Some, None, Ok, refl, ap}
use Rattle.std.specs.Prelude.{is_some, if◌then◌else◌}
use Rattle.std.specs.Result.{result_err}
use Rattle.mme_core.specs.World.{World, fresh_world}
use Rattle.trace_words.specs.declared.line.Line.{Line}
use Rattle.trace_words.specs.declared.line.Line.TheVariants.{Skip, Mme, Sub, Vec, Up, Lost, In, Tick, Data, Cancel, Show}
use Rattle.trace_words.specs.Trace.{◌>>=◌}
use Rattle.trace_words.specs.declared.fault.TraceFault.TheVariants.{Order, Provision}
use Rattle.trace_progress.specs.declared.progress.Progress.{Progress}
use Rattle.trace_progress.specs.declared.progress.Progress.TheVariants.{Nothing, Provisioning, Running}
use Rattle.trace_progress.specs.Effects.{effect_of, left, running, states_of_imsi}
use Rattle.sim_printing.specs.LineLaws.{asked}
use Rattle.sim_printing.specs.Printed.{IsBegun}
use Rattle.sim_lines.specs.Events.{IsEventLine}
use Rattle.sim_lines.specs.Faults.{fault_of_line}

-- ---- events

-- what is done with an MME has the fault that there is none
then_left : (progress : Progress) (f : World → World × List ℕ)
    → result_err (running progress >>= (λ world. left (f world))) ≡ result_err (running progress)
then_left Nothing f = refl
then_left (Provisioning config p) f = refl
then_left (Running world) f = refl

pub event_fault : (line : Line) (acted : Bool) (progress : Progress) → IsEventLine line
    → fault_of_line acted progress line ≡ result_err (running progress)
unfolding effect_of
event_fault Skip acted progress h = absurd (cc h)
event_fault (Mme network) acted progress h = absurd (cc h)
event_fault (Sub profile) acted progress h = absurd (cc h)
event_fault (Vec imsi vector) acted progress h = absurd (cc h)
event_fault (Up e) acted progress h = then_left progress _
event_fault (Lost e) acted progress h = then_left progress _
event_fault (In e octets) acted progress h = then_left progress _
event_fault (Tick n) acted progress h = then_left progress _
event_fault (Data imsi) acted progress h = then_left progress _
event_fault (Cancel imsi) acted progress h = then_left progress _
event_fault (Show imsi) acted progress h = absurd h

-- with an MME to speak to there is none
pub begun_fault : (progress : Progress) → IsBegun progress → result_err (running progress) ≡ None
begun_fault Nothing h = absurd h
begun_fault (Provisioning config p) h = refl
begun_fault (Running world) h = refl

pub early_fault : (progress : Progress) → progress ≡ Nothing → result_err (running progress) ≡ Some Order
early_fault progress e = ap (λ (v : Progress). result_err (running v)) e

-- ---- questions

pub show_fault : (acted : Bool) (progress : Progress) (imsi : List ℕ) (known : Bool) → IsBegun progress
    → ((world : World) → running progress ≡ Ok world → known ≡ is_some (states_of_imsi imsi world))
    → fault_of_line acted progress (Show imsi) ≡ (if known then None else Some Provision)
unfolding effect_of
show_fault acted Nothing imsi known b h = absurd b
show_fault acted (Provisioning config p) imsi known b h =
    let world = fresh_world config p in asked world imsi known (h world refl)
show_fault acted (Running world) imsi known b h = asked world imsi known (h world refl)

pub early_show : (acted : Bool) (progress : Progress) (imsi : List ℕ) → progress ≡ Nothing
    → fault_of_line acted progress (Show imsi) ≡ Some Order
unfolding effect_of
early_show acted progress imsi e = ap (λ (v : Progress). fault_of_line acted v (Show imsi)) e

-- ---- what says nothing

pub skip_fault : (acted : Bool) (progress : Progress) → fault_of_line acted progress Skip ≡ None
unfolding effect_of
skip_fault acted progress = refl
