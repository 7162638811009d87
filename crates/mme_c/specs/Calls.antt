-- What the calls make of a handle, as relations between what it holds before and after.
use Rattle.std.specs.Prelude.{◌≡◌, ◌⊎◌, ℕ, List, Option, Some, None, Result, Ok, Err}
use Rattle.mme_core.specs.World.{World}
use Rattle.c_session.specs.declared.refusal.Refusal.{Refusal}
use Rattle.c_session.specs.declared.refusal.Refusal.TheVariants as refusals
use Rattle.c_session.specs.declared.lines.LinesFault.{LinesFault}
use Rattle.c_session.specs.declared.session.Session.{Session}
use Rattle.c_session.specs.Lines.{IsShortOf, made_of}
use Rattle.c_session.specs.Refusals.{number_of}
use Rattle.c_session.specs.Sessions.{IsLost, Plays, RanFrom, nothing, started, ticking, ticks}
use Rattle.mme_c.specs.declared.provisioning.LineFault.{LineFault}

-- the answer of a call
abbrev pub answer_number : Result (Unit {0}) Refusal → ℕ
answer_number (Ok _) = 0
answer_number (Err refusal) = number_of refusal

-- a session that has no place yet is held, or memory ran out (4)
abbrev pub IsKept : Session → Option Session → ℕ → Option Session → Type 0
IsKept s before answer after = ((answer ≡ 0) × (after ≡ Some s)) ⊎ ((answer ≡ 4) × (after ≡ before))

-- ---- calls that make something else of a session

-- what is wanted is so, or memory ran out (4); or it is refused, with the number why. A call that isn't done leaves all as it was
abbrev pub IsAnswered : Result Session Refusal → Session → ℕ → Session → Type 0
IsAnswered (Ok wanted) s answer after = ((answer ≡ 0) × (after ≡ wanted)) ⊎ ((answer ≡ 4) × (after ≡ s))
IsAnswered (Err refusal) s answer after = (answer ≡ number_of refusal) × (after ≡ s)

-- the same of a handle. An empty one stays so (21)
abbrev pub IsCall : (Session → Result Session Refusal) → Option Session → ℕ → Option Session → Type 0
IsCall wanted None answer after = (answer ≡ 21) × (after ≡ None)
IsCall wanted (Some s) answer None = ⊥
IsCall wanted (Some s) answer (Some after) = IsAnswered (wanted s) s answer after

-- the first call on an empty handle: it holds what the call made, or is empty where that is refused or memory ran out (4)
abbrev pub IsFirst : Result Session Refusal → ℕ → Option Session → Type 0
IsFirst (Ok wanted) answer after = ((answer ≡ 0) × (after ≡ Some wanted)) ⊎ ((answer ≡ 4) × (after ≡ None))
IsFirst (Err refusal) answer after = (answer ≡ number_of refusal) × (after ≡ None)

-- a call that an empty handle allows: it is as a session in which nothing is provisioned
abbrev pub IsBegin : (Session → Result Session Refusal) → Option Session → ℕ → Option Session → Type 0
IsBegin wanted None answer after = IsFirst (wanted nothing) answer after
IsBegin wanted (Some s) answer None = ⊥
IsBegin wanted (Some s) answer (Some after) = IsAnswered (wanted s) s answer after

-- ---- the start

-- the MME runs, or memory ran out while it was made, where none ran before, and nothing is provisioned any more (25)
abbrev pub IsStarted : Result Session Refusal → Session → ℕ → Session → Type 0
IsStarted (Ok wanted) s answer after = ((answer ≡ 0) × (after ≡ wanted)) ⊎ ((answer ≡ 25) × IsLost s after)
IsStarted (Err refusal) s answer after = (answer ≡ number_of refusal) × (after ≡ s)

abbrev pub IsStart : Option Session → ℕ → Option Session → Type 0
IsStart None answer after = (answer ≡ 21) × (after ≡ None)
IsStart (Some s) answer None = ⊥
IsStart (Some s) answer (Some after) = IsStarted (started s) s answer after

-- ---- ticks

-- each tick is replied to, or there is no room for the replies (4); or they are refused, with the number why
abbrev pub IsTicked : Result World Refusal → ℕ → Session → ℕ → Session → Type 0
IsTicked (Ok world) count s answer after = ((answer ≡ 0) × RanFrom world (ticks count) after) ⊎ ((answer ≡ 4) × (after ≡ s))
IsTicked (Err refusal) count s answer after = (answer ≡ number_of refusal) × (after ≡ s)

abbrev pub IsTick : ℕ → Option Session → ℕ → Option Session → Type 0
IsTick count None answer after = (answer ≡ 21) × (after ≡ None)
IsTick count (Some s) answer None = ⊥
IsTick count (Some s) answer (Some after) = IsTicked (ticking s count) count s answer after

-- ---- lines

-- what an empty handle holds after its first line, by what the line's answer is and leaves
abbrev pub IsFirstLine : Result (Unit {0}) Refusal → Session → ℕ → Option Session → Type 0
IsFirstLine (Ok _) s answer after = ((answer ≡ 0) × (after ≡ Some s)) ⊎ ((answer ≡ 4) × (after ≡ None))
IsFirstLine (Err refusal) s answer after = (answer ≡ number_of refusal) × (after ≡ None)

-- a line is played, on an empty handle as where nothing is provisioned
abbrev pub IsLine : Option Session → List ℕ → ℕ → Option Session → Type 0
IsLine None text answer after =
    (result : Result (Unit {0}) Refusal) × (s : Session) × Plays text nothing result s × IsFirstLine result s answer after
IsLine (Some s) text answer None = ⊥
IsLine (Some s) text answer (Some after) =
    (result : Result (Unit {0}) Refusal) × Plays text s result after × (answer ≡ answer_number result)

-- ---- a new MME

-- a fault of lines, as C has it
abbrev pub line_fault : LinesFault → LineFault
line_fault fault = record { line = fault.line; refusal = number_of fault.refusal }

-- the lines are refused: the handle stays empty, and the number why is answered and, with the line, written
abbrev pub IsRefusedAt : LinesFault → ℕ → Option Session → LineFault → Type 0
IsRefusedAt refused answer after fault =
    (answer ≡ number_of refused.refusal) × (after ≡ None) × (fault ≡ line_fault refused)

-- the MME of these lines is held, or there is no memory for what the handle keeps (4), and no fault is written; or they are refused
abbrev pub IsMade : Result Session LinesFault → ℕ → Option Session → LineFault → LineFault → Type 0
IsMade (Ok wanted) answer after fault fault' = IsKept wanted None answer after × (fault' ≡ fault)
IsMade (Err refused) answer after fault fault' = IsRefusedAt refused answer after fault'

-- memory ran out at a line, or while the MME was made of all of them
abbrev pub IsShort : List ℕ → ℕ → Option Session → LineFault → Type 0
IsShort text answer after fault = (refused : LinesFault) × IsShortOf text refused × IsRefusedAt refused answer after fault

-- an empty handle holds the MME of these lines, or stays empty. One that isn't empty keeps what it holds (22)
abbrev pub IsNew : Option Session → List ℕ → LineFault → ℕ → Option Session → LineFault → Type 0
IsNew None text fault answer after fault' =
    IsMade (made_of text) answer after fault fault' ⊎ IsShort text answer after fault'
IsNew (Some s) text fault answer after fault' = (answer ≡ 22) × (after ≡ Some s) × (fault' ≡ fault)
