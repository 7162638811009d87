-- What ends where nothing but time comes.
use Rattle.std.specs.Prelude.{◌≡◌, ℕ, ◌+◌, ◌*◌, ◌≤◌, Bool, true, false, Option, Some, None}
use Rattle.emm_state.specs.declared.setting.Setting.{Setting}
use Rattle.emm_state.specs.declared.solo.Countdown.{Countdown}
use Rattle.emm_state.specs.declared.solo.NasTimer.{NasTimer}
use Rattle.emm_state.specs.declared.solo.NasTimer.TheVariants.{T3413, T3422, T3450, T3460, T3489}
use Rattle.emm_state.specs.declared.solo.Phase.{Phase}
use Rattle.emm_state.specs.declared.solo.Phase.TheVariants.{Deregistered, Authenticating, SecurityMode, EsmInformation, Accepting, Updating, Registered, Detaching}
use Rattle.emm_state.specs.declared.solo.Solo.{Solo}
use Rattle.emm_state.specs.Timers.{reachable_ticks, repeats_of, ticks_of}
use Rattle.emm_machine.specs.Ticks.{ticks_after}
use Rattle.laws_subscriber.specs.Clocked.{IsClocked}

-- whether a procedure with the phone is under way
abbrev pub is_under_way : Phase → Bool
is_under_way Deregistered = false
is_under_way Authenticating = true
is_under_way SecurityMode = true
is_under_way EsmInformation = true
is_under_way Accepting = true
is_under_way Updating = true
is_under_way Registered = false
is_under_way Detaching = true

-- the ticks until a countdown is given up, with all its repeats
abbrev pub ticks_due : Option Countdown → ℕ
ticks_due None = 0
ticks_due (Some c) = c.left + c.repeats * ticks_of c.timer

-- the most ticks of a timer: its length, and once more for each repeat
abbrev pub most_ticks : NasTimer → ℕ
most_ticks timer = ticks_of timer + repeats_of timer * ticks_of timer

-- the most ticks that a phase lasts, and that a phone that is registered is paged
abbrev pub longest_in : Phase → ℕ
longest_in Deregistered = 0
longest_in Authenticating = most_ticks T3460
longest_in SecurityMode = most_ticks T3460
longest_in EsmInformation = most_ticks T3489
longest_in Accepting = most_ticks T3450
longest_in Updating = most_ticks T3450
longest_in Registered = most_ticks T3413
longest_in Detaching = most_ticks T3422

-- the most that any procedure lasts
abbrev pub longest_procedure : ℕ
longest_procedure = most_ticks T3460

-- and the most until a phone is deregistered that is silent and not registered and connected
abbrev pub longest_registration : ℕ
longest_registration = longest_procedure + reachable_ticks

-- deregistered or registered, and no procedure's countdown runs
abbrev pub IsSettled : Solo → Type 0
IsSettled solo = (is_under_way solo.phase ≡ false) × (solo.procedure ≡ None)

-- a procedure is over once its ticks have passed
abbrev pub EndsWhenDue : Type 0
EndsWhenDue = (s : Setting) (solo : Solo) (n : ℕ) → IsClocked solo → ticks_due solo.procedure ≤ n → IsSettled (ticks_after s n solo)

-- and so within the phase's most ticks
abbrev pub EndsInTime : Type 0
EndsInTime = (s : Setting) (solo : Solo) (n : ℕ) → IsClocked solo → longest_in solo.phase ≤ n → IsSettled (ticks_after s n solo)

-- a phone that is registered and idle is forgotten when its reachable countdown has ended
abbrev pub IdleEnds : Type 0
IdleEnds =
    (s : Setting) (solo : Solo) (n : ℕ) → IsClocked solo → solo.phase ≡ Registered → solo.connection ≡ None → reachable_ticks ≤ n
    → (ticks_after s n solo).phase ≡ Deregistered

-- and any phone, but for one that is registered and connected
abbrev pub AllElseEnds : Type 0
AllElseEnds =
    (s : Setting) (solo : Solo) (n : ℕ) → IsClocked solo → (solo.phase ≡ Registered → solo.connection ≡ None)
    → longest_registration ≤ n
    → (ticks_after s n solo).phase ≡ Deregistered
