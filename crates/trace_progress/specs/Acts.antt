-- What one text and one line of a trace leave and write, by the answer.
use Rattle.std.specs.Prelude.{◌≡◌, ℕ, ⊤, List, [], ◌++◌, Option, Result, Ok, Err}
use Rattle.std.specs.Io.KnownBytes.{Appends}
use Rattle.trace_words.specs.declared.fault.TraceFault.{TraceFault}
use Rattle.trace_progress.specs.declared.fault.PlayFault.{PlayFault}
use Rattle.trace_progress.specs.declared.fault.PlayFault.TheVariants.{Trace, Read, Write, NoMemory}
use Rattle.trace_progress.specs.declared.progress.Progress.{Progress}
use Rattle.trace_progress.specs.declared.progress.Progress.TheVariants.{Nothing, Provisioning, Running}
use Rattle.mme_core.specs.World.{World}
use Rattle.trace_progress.specs.Effects.{Effect}

abbrev pub IsPrefix : List ℕ → List ℕ → Type 0
IsPrefix front played_from = (rest : List ℕ) × (played_from ≡ front ++ rest)

-- where a writer's octets are known, they grow by some of which this holds
abbrev pub GrowsBy : Option (List ℕ) → Option (List ℕ) → (List ℕ → Type 0) → Type 0
GrowsBy held_old held_new P = (written : List ℕ) × Appends held_old held_new written × P written

-- ---- one text, one line

-- what is written of a text, by the answer
abbrev pub Puts : {A : Type 0} → List ℕ → Result A PlayFault → List ℕ → Type 0
Puts text (Ok _) written = written ≡ text
Puts text (Err NoMemory) written = IsPrefix written text
Puts text (Err Write) written = IsPrefix written text
Puts text (Err Read) written = ⊥
Puts text (Err (Trace line fault)) written = ⊥

abbrev pub effect_text : Effect → List ℕ
effect_text (Ok done) = done.1
effect_text (Err fault) = []

-- what the line of that number leaves and writes, by the answer
abbrev pub Acts : ℕ → Effect → Result (Unit {0}) PlayFault → Progress → List ℕ → Type 0
Acts line effect (Ok _) new written = effect ≡ Ok (new, written)
Acts line effect (Err NoMemory) new written = IsPrefix written (effect_text effect)
Acts line effect (Err Write) new written = IsPrefix written (effect_text effect)
Acts line effect (Err Read) new written = ⊥
Acts line effect (Err (Trace number fault)) new written = (effect ≡ Err fault) × (number ≡ line) × (written ≡ [])

-- no MME runs yet
abbrev pub IsIdle : Progress → Type 0
IsIdle Nothing = ⊤
IsIdle (Provisioning config provisioned) = ⊤
IsIdle (Running world) = ⊥

-- the MME runs, and is the one that was wanted
abbrev pub RunsAs : Result World TraceFault → Progress → Type 0
RunsAs wanted Nothing = ⊥
RunsAs wanted (Provisioning config provisioned) = ⊥
RunsAs wanted (Running world) = wanted ≡ Ok world

-- the same, or the line of that number has the fault that was met, or memory for the MME was refused: then nothing is provisioned
-- any more
abbrev pub Runs : ℕ → Result World TraceFault → Result (Unit {0}) PlayFault → Progress → Type 0
Runs line wanted (Ok _) new = RunsAs wanted new
Runs line wanted (Err NoMemory) new = new ≡ Nothing
Runs line wanted (Err Write) new = ⊥
Runs line wanted (Err Read) new = ⊥
Runs line wanted (Err (Trace number fault)) new = (wanted ≡ Err fault) × (number ≡ line)

-- the MME was to be made of what is provisioned and wasn't, and nothing of that is left
abbrev pub IsUnmade : Progress → Progress → Type 0
IsUnmade Nothing new = ⊥
IsUnmade (Provisioning config provisioned) new = new ≡ Nothing
IsUnmade (Running world) new = ⊥
