-- The fault of a script's line, by what the lines before it have left, and after which lines nothing is provisioned any more.
use Rattle.std.specs.Prelude.{◌≡◌, ℕ, ◌&&◌, ⊤, Bool, true, false, not, List, Option, Some, None, Result, Ok, Err, if◌then◌else◌}
use Rattle.std.specs.Result.{result_err}
use Rattle.trace_words.specs.declared.line.Line.{Line}
use Rattle.trace_words.specs.declared.line.Line.TheVariants.{Skip, Mme, Sub, Vec, Up, Lost, In, Tick, Data, Cancel, Show}
use Rattle.trace_words.specs.declared.fault.TraceFault.{TraceFault}
use Rattle.trace_words.specs.declared.fault.TraceFault.TheVariants.{Order}
use Rattle.trace_words.specs.declared.script_line.ScriptLine.{ScriptLine}
use Rattle.trace_words.specs.declared.script_line.ScriptLine.TheVariants as script
use Rattle.trace_words.specs.Script.{script_line_of}
use Rattle.trace_progress.specs.declared.fault.PlayFault.{PlayFault}
use Rattle.trace_progress.specs.declared.fault.PlayFault.TheVariants.{Trace, Read, Write, NoMemory}
use Rattle.trace_progress.specs.declared.progress.Progress.{Progress}
use Rattle.trace_progress.specs.Effects.{effect_of, running}

-- ---- lines that provision, and those that end it

-- what an MME is made of
abbrev pub provisions : Line → Bool
provisions Skip = false
provisions (Mme network) = true
provisions (Sub profile) = true
provisions (Vec imsi vector) = true
provisions (Up e) = false
provisions (Lost e) = false
provisions (In e octets) = false
provisions (Tick n) = false
provisions (Data imsi) = false
provisions (Cancel imsi) = false
provisions (Show imsi) = false

-- an event or a question, which is for the MME that is made of it
abbrev pub is_for_mme : Line → Bool
is_for_mme Skip = false
is_for_mme line = not (provisions line)

abbrev pub said_for_mme : Result ScriptLine TraceFault → Bool
said_for_mme (Ok (script.Trace line)) = is_for_mme line
said_for_mme (Ok (script.Act act)) = true
said_for_mme (Err fault) = false

-- a line after which nothing is provisioned any more: an act, an event or a question
abbrev pub ends_provisioning : List ℕ → Bool
ends_provisioning text = said_for_mme (script_line_of text)

-- ---- faults

-- a line that is read as in a trace has the fault that it has there; but one that provisions has Order, once an act, an event or a
-- question has come
abbrev pub fault_of_line : Bool → Progress → Line → Option TraceFault
fault_of_line acted progress line = if provisions line && acted then Some Order else result_err (effect_of progress line)

-- an act has one where there is no MME to speak to
abbrev pub fault_of_said : Bool → Progress → Result ScriptLine TraceFault → Option TraceFault
fault_of_said acted progress (Ok (script.Trace line)) = fault_of_line acted progress line
fault_of_said acted progress (Ok (script.Act act)) = result_err (running progress)
fault_of_said acted progress (Err fault) = Some fault

-- the fault of a line of a script, if it has one: by whether an act, an event or a question came before, by how far the trace
-- that is printed has got, and by the line without its LF
abbrev pub script_fault : Bool → Progress → List ℕ → Option TraceFault
script_fault acted progress text = fault_of_said acted progress (script_line_of text)

-- the answer to a line with this fault, or with none: no other fault is answered, and that one is, unless memory is refused
abbrev pub AnswersFault : Option TraceFault → Result (Unit {0}) PlayFault → Type 0
AnswersFault fault (Ok _) = fault ≡ None
AnswersFault fault (Err (Trace place met)) = fault ≡ Some met
AnswersFault fault (Err NoMemory) = ⊤
AnswersFault fault (Err Read) = ⊤
AnswersFault fault (Err Write) = ⊤
