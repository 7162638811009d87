-- What a player makes of one line of a text.
use Rattle.std.specs.Prelude.{◌≡◌, ℕ, ⊤, List, Result, Ok, Err}
use Rattle.trace_progress.specs.declared.fault.PlayFault.{PlayFault}
use Rattle.trace_progress.specs.declared.fault.PlayFault.TheVariants.{Trace, Read, Write, NoMemory}

-- the type of `plays`: what the lines before have left, the number and the octets of the line, the answer, what the line leaves,
-- and what is written of it
abbrev pub LineRelation : Type 0 → Type 1
LineRelation S = S → ℕ → List ℕ → Result (Unit {0}) PlayFault → S → List ℕ → Type 0

-- a fault is that of the line with this number; a failed read is of no line
abbrev pub IsOfLine : ℕ → Result (Unit {0}) PlayFault → Type 0
IsOfLine number (Ok _) = ⊤
IsOfLine number (Err (Trace line fault)) = line ≡ number
IsOfLine number (Err NoMemory) = ⊤
IsOfLine number (Err Write) = ⊤
IsOfLine number (Err Read) = ⊥
