-- What a run of the program says of the whole trace, and what one of its lines leaves where it is refused.
use Rattle.std.specs.Prelude.{◌≡◌, ◌⊎◌, ℕ, Bool, List, Option, Some, None, Result, Ok, Err}
use Rattle.std.specs.Io.KnownBytes.{Consumes, Appends}
use Rattle.trace_words.specs.Trace.{line_of}
use Rattle.trace_words.specs.declared.line.Line.{Line}
use Rattle.trace_progress.specs.declared.fault.PlayFault.{PlayFault}
use Rattle.trace_progress.specs.declared.fault.PlayFault.TheVariants.{Trace, Read, Write, NoMemory}
use Rattle.trace_progress.specs.declared.progress.Progress.{Progress}
use Rattle.trace_progress.specs.Text.{played_text, played_of}
use Rattle.trace_progress.specs.Acts.{IsPrefix}
use Rattle.trace_run.specs.Lines.{ReadsFarEnough}
use Rattle.trace_run.specs.Leaving.{LeftByLine}

-- the line that these octets say is refused with that fault
abbrev pub LeftOnceRead : Progress → List ℕ → PlayFault → Progress → Type 0
LeftOnceRead old text fault new = (line : Line) × (line_of text ≡ Ok line) × LeftByLine old line fault new

-- a line of these octets is: at a fault of its own all is as it was, and so it may be where memory is refused, as it is read
abbrev pub LeftByText : Progress → List ℕ → PlayFault → Progress → Type 0
LeftByText old text (Trace line fault) new = new ≡ old
LeftByText old text NoMemory new = (new ≡ old) ⊎ LeftOnceRead old text NoMemory new
LeftByText old text Write new = LeftOnceRead old text Write new
LeftByText old text Read new = ⊥

-- what has been written for a trace that is read so far, by the answer
abbrev pub WritesFor : List ℕ → List ℕ → Result (Unit {0}) PlayFault → Type 0
WritesFor read written (Ok _) = played_of read ≡ played_text written None
WritesFor read written (Err (Trace line fault)) = played_of read ≡ played_text written (Some (line, fault))
WritesFor read written (Err Read) = IsPrefix written ((played_of read).text)
WritesFor read written (Err Write) = IsPrefix written ((played_of read).text)
WritesFor read written (Err NoMemory) = IsPrefix written ((played_of read).text)

-- what a run read and wrote, in the known octets of its reader and its writer
abbrev pub Plays : Option (List ℕ) → Option (List ℕ) → Option (List ℕ) → Option (List ℕ) → Bool → Result (Unit {0}) PlayFault
    → Type 0
Plays left_old left_new held_old held_new ended result =
    (read : List ℕ) × (written : List ℕ) × Consumes left_old left_new read × Appends held_old held_new written
    × WritesFor read written result × ReadsFarEnough read ended result
