-- What each call of the simulation says of the whole script and of the whole output.
use Rattle.std.specs.Prelude.{◌≡◌, ℕ, ◌-◌, ◌<◌, ⊤, Bool, List, [], ◌++◌, length, take, slice_get, Option, Some, None, Result, Ok, Err}
use Rattle.std.specs.List.{list_any}
use Rattle.std.specs.Io.KnownBytes.{Consumes, Appends}
use Rattle.trace_words.specs.declared.line.Line.{Line}
use Rattle.trace_words.specs.declared.fault.TraceFault.{TraceFault}
use Rattle.trace_words.specs.Kept.{kept_in}
use Rattle.trace_progress.specs.declared.fault.PlayFault.{PlayFault}
use Rattle.trace_progress.specs.declared.fault.PlayFault.TheVariants.{Trace, Read, Write, NoMemory}
use Rattle.trace_progress.specs.declared.progress.Progress.{Progress}
use Rattle.trace_progress.specs.declared.progress.Progress.TheVariants.{Nothing}
use Rattle.trace_progress.specs.Text.{played_text, lines_of, played_of}
use Rattle.trace_run.specs.Lines.{ReadsFarEnough}
use Rattle.sim_lines.specs.Faults.{ends_provisioning, script_fault}
use Rattle.sim_lines.specs.sim_printing.Printed.{answers_in, Speaks}

-- ---- one line

-- what is written of a line with these kept lines: the trace goes on; or at a fault of the line nothing is written, and nothing
-- where memory for it is wanting
abbrev pub WritesLine : List (Result Line TraceFault) → Progress → Result (Unit {0}) PlayFault → Progress → List ℕ → Type 0
WritesLine kept old (Ok _) new written = Speaks old written new × (kept_in (lines_of written) ≡ kept)
WritesLine kept old (Err (Trace line fault)) new written = written ≡ []
WritesLine kept old (Err NoMemory) new written = written ≡ []
WritesLine kept old (Err Write) new written = ⊤
WritesLine kept old (Err Read) new written = ⊥

-- ---- the lines of a script, by their places

-- whether one of these lines is an act, an event or a question
abbrev pub acted_in : List (List ℕ) → Bool
acted_in lines = list_any ends_provisioning lines

-- the line at a place has this fault, or none, as it is met: once this has been written, which leads the trace up to there and
-- passes on the kept lines before the line
pub record Meets (lines : List (List ℕ)) (place : ℕ) (written : List ℕ) (fault : Option TraceFault) : Type 0 where
  pub text : List ℕ
  pub progress : Progress
  pub there : slice_get lines place ≡ Some text
  pub speaks : Speaks Nothing written progress
  pub kept : kept_in (lines_of written) ≡ kept_in (take place lines)
  pub has : script_fault (acted_in (take place lines)) progress text ≡ fault

-- none of the first lines, of which there are `count`, has a fault as it is met
abbrev pub HaveNoFault : List (List ℕ) → ℕ → List ℕ → Type 0
HaveNoFault lines count written =
    (place : ℕ) → place < count → (before : List ℕ) × (after : List ℕ) × (written ≡ before ++ after) × Meets lines place before None

-- ---- a whole run

-- the output is a trace whose answers are its own lines that begin with `# `, and it passes on the kept lines of the script, up to
-- before the line of a fault; no line before has a fault, and that one has this one
abbrev pub SimTells : List ℕ → List ℕ → Result (Unit {0}) PlayFault → Type 0
SimTells read written (Ok _) =
    (played_of written ≡ played_text (answers_in (lines_of written)) None)
    × (kept_in (lines_of written) ≡ kept_in (lines_of read))
    × HaveNoFault (lines_of read) (length (lines_of read)) written
SimTells read written (Err (Trace line fault)) =
    (played_of written ≡ played_text (answers_in (lines_of written)) None)
    × (kept_in (lines_of written) ≡ kept_in (take (line - 1) (lines_of read)))
    × HaveNoFault (lines_of read) (line - 1) written
    × Meets (lines_of read) (line - 1) written (Some fault)
SimTells read written (Err Read) = ⊤
SimTells read written (Err Write) = ⊤
SimTells read written (Err NoMemory) = ⊤

-- what a simulation read and wrote, in the known octets of its reader and its writer
abbrev pub Simulates : Option (List ℕ) → Option (List ℕ) → Option (List ℕ) → Option (List ℕ) → Bool → Result (Unit {0}) PlayFault
    → Type 0
Simulates left_old left_new held_old held_new ended result =
    (read : List ℕ) × (written : List ℕ) × Consumes left_old left_new read × Appends held_old held_new written
    × SimTells read written result × ReadsFarEnough read ended result
