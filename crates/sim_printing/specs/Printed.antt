-- The output of a simulation: a trace whose comments are its answers.
use Rattle.std.specs.Prelude.{◌≡◌, ℕ, ◌+◌, ◌==◌, ⊤, ◌⊎◌, List, [], ◌∷◌, ◌++◌, Option, Result, Ok, Err, IsOk, if◌then◌else◌, codes}
use Rattle.std.specs.Fmt.{decimal}
use Rattle.std.specs.Result.{result_ok}
use Rattle.mme_core.specs.World.{World, reply}
use Rattle.mme_core.specs.declared.event.Event.{Event}
use Rattle.mme_core.specs.declared.event.Event.TheVariants as event
use Rattle.mme_core.specs.mme_answering.declared.out.Out.{Out}
use Rattle.trace_words.specs.declared.line.Line.{Line}
use Rattle.trace_words.specs.declared.line.Line.TheVariants.{Up, Lost, In, Tick, Data, Cancel}
use Rattle.trace_words.specs.declared.fault.TraceFault.{TraceFault}
use Rattle.trace_words.specs.Trace.{line_of}
use Rattle.trace_words.specs.Kept.{kept_in, kept_line}
use Rattle.trace_progress.specs.declared.fault.PlayFault.{PlayFault}
use Rattle.trace_progress.specs.declared.fault.PlayFault.TheVariants.{Trace, Read, Write, NoMemory}
use Rattle.trace_progress.specs.declared.progress.Progress.{Progress}
use Rattle.trace_progress.specs.declared.progress.Progress.TheVariants.{Nothing, Provisioning, Running}
use Rattle.trace_progress.specs.Effects.{effect_of, left_by, running}
use Rattle.trace_progress.specs.Text.{prepended, play, lines_of, breaks}
use Rattle.sim_printing.specs.Stopped.{HasTakenLine, IsFurther}

-- ---- comments

-- a line that begins with `# `, without these two octets and with its LF
abbrev pub answer_in : List ℕ → List ℕ
answer_in [] = []
answer_in (a ∷ []) = []
answer_in (a ∷ b ∷ rest) = if a == 35 then (if b == 32 then rest ++ 10 ∷ [] else []) else []

abbrev pub answers_in : List (List ℕ) → List ℕ
answers_in [] = []
answers_in (line ∷ lines) = answer_in line ++ answers_in lines

-- whole lines that do nothing in a trace: what stands after `# ` on them; none is a kept line
pub record AreComments (text said : List ℕ) : Type 0 where
  pub whole : (more : List ℕ) → lines_of (text ++ more) ≡ lines_of text ++ lines_of more
  pub silent : (progress : Progress) (n : ℕ) (more : List ℕ)
      → play progress n (lines_of (text ++ more)) ≡ play progress (n + breaks text) (lines_of more)
  pub said_so : answers_in (lines_of text) ≡ said
  pub none_kept : kept_in (lines_of text) ≡ []

-- an output that goes on with comments
abbrev pub AddsComments : List ℕ → List ℕ → List ℕ → Type 0
AddsComments before after said = (text : List ℕ) × (after ≡ before ++ text) × AreComments text said

-- the remark that an act can't be done
abbrev pub skipped_line : List ℕ
skipped_line = codes "## skipped\n"

-- the remark that `count` events were left out
abbrev pub dropped_line : ℕ → List ℕ
dropped_line count = codes "## dropped " ++ decimal count ++ codes "\n"

-- ---- lines that are played

-- whole lines that lead a trace from one state to another, and whose comments are its answers
pub record Speaks (old : Progress) (text : List ℕ) (new : Progress) : Type 0 where
  pub whole : (more : List ℕ) → lines_of (text ++ more) ≡ lines_of text ++ lines_of more
  pub plays : (n : ℕ) (more : List ℕ)
      → play old n (lines_of (text ++ more)) ≡ prepended (answers_in (lines_of text)) (play new (n + breaks text) (lines_of more))

-- what a call that prints leaves: the output goes on with whole lines that lead the trace from the one state to the other, and
-- these are the kept lines among them
abbrev pub Prints : Progress → List ℕ → Progress → List ℕ → List (Result Line TraceFault) → Type 0
Prints old before new after kept =
    (text : List ℕ) × (after ≡ before ++ text) × Speaks old text new × (kept_in (lines_of text) ≡ kept)

-- the same of a call that an MME takes part in, which ran already or is made of what is provisioned
abbrev pub PrintsFrom : World → List ℕ → World → List ℕ → List (Result Line TraceFault) → Type 0
PrintsFrom old before new after kept =
    (progress : Progress) → running progress ≡ Ok old → Prints progress before (Running new) after kept

-- what the trace line of that number leaves, which writes nothing: it is printed; or at its fault nothing is, and the trace stands
-- where it stood; or memory is wanting, only where it has no fault: then nothing is printed, and it was taken or not
abbrev pub PrintsLine : ℕ → Line → Progress → List ℕ → Result (Unit {0}) PlayFault → Progress → List ℕ → Type 0
PrintsLine number line old before (Ok _) new after =
    (effect_of old line ≡ Ok (new, [])) × Prints old before new after (kept_line line)
PrintsLine number line old before (Err (Trace place fault)) new after =
    (effect_of old line ≡ Err fault) × (place ≡ number) × (after ≡ before) × (new ≡ old)
PrintsLine number line old before (Err NoMemory) new after =
    IsOk (effect_of old line) × (after ≡ before) × ((new ≡ old) ⊎ (effect_of old line ≡ Ok (new, [])))
PrintsLine number line old before (Err Read) new after = ⊥
PrintsLine number line old before (Err Write) new after = ⊥

-- the provisioning has begun, so there is an MME to speak to
abbrev pub IsBegun : Progress → Type 0
IsBegun Nothing = ⊥
IsBegun (Provisioning config provisioned) = ⊤
IsBegun (Running world) = ⊤

-- what a call that speaks to the MME prints
abbrev pub PrintsOn : Progress → List ℕ → Progress → List ℕ → List (Result Line TraceFault) → Type 0
PrintsOn old before new after kept = IsBegun new × Prints old before new after kept

-- what the script line of that number leaves: what it stands for is printed, or at its fault nothing is; and where memory is
-- wanting nothing is printed either, and the trace is as far as it got with the line
abbrev pub PrintsScriptLine : ℕ → List (Result Line TraceFault) → Progress → List ℕ → Result (Unit {0}) PlayFault → Progress
    → List ℕ → Type 0
PrintsScriptLine number kept old before (Ok _) new after = Prints old before new after kept
PrintsScriptLine number kept old before (Err (Trace place fault)) new after = (place ≡ number) × (after ≡ before)
PrintsScriptLine number kept old before (Err NoMemory) new after =
    (after ≡ before) × (IsFurther old new ⊎ HasTakenLine kept old new)
PrintsScriptLine number kept old before (Err Read) new after = ⊥
PrintsScriptLine number kept old before (Err Write) new after = ⊥

-- ---- the line of an event

-- a text without LF that says this line
abbrev pub ReadsAs : Line → List ℕ → Type 0
ReadsAs line text = (breaks text ≡ 0) × (line_of text ≡ Ok line)

-- the line of an event; each tick has its own
abbrev pub event_line : Event → Line
event_line (event.Up e) = Up e
event_line (event.Lost e) = Lost e
event_line (event.In e octets) = In e octets.now
event_line event.Tick = Tick 1
event_line (event.Data imsi) = Data imsi
event_line (event.Cancel imsi) = Cancel imsi

-- what was sent at an event is what the MME sends, and nothing is told of one that it refuses
abbrev pub IfSent : Progress → Event → Option (List Out) → Type 0
IfSent old event sent = (world : World) → running old ≡ Ok world → sent ≡ result_ok (reply world event)

-- the MME after an event that was answered: one that it refused left it as it was
abbrev pub AfterEvent : Progress → Event → Progress → Type 0
AfterEvent old event new = (world : World) → running old ≡ Ok world → new ≡ Running (left_by world event (reply world event))
