-- Many ticks at once, and the countdowns that run.
use Rattle.std.specs.Prelude.{ℕ, zero, suc, ◌-◌, ◌<◌, ◌≤◌, Option, Some, None, IsSome}
use Rattle.mme_types.specs.Events.{Tick}
use Rattle.emm_state.specs.declared.setting.Setting.{Setting}
use Rattle.emm_state.specs.declared.solo.Countdown.{Countdown}
use Rattle.emm_state.specs.declared.solo.Repeat.{Repeat}
use Rattle.emm_state.specs.declared.solo.Solo.{Solo}
use Rattle.emm_state.specs.Timers.{reachable_ticks}
use Rattle.emm_machine.specs.Steps.{solo_step}
use Rattle.emm_machine.specs.Words.{procedure_left}

-- the state after n ticks
unfoldable pub ticks_after : Setting → ℕ → Solo → Solo
ticks_after s zero solo = solo
ticks_after s (suc n) solo = (solo_step s (ticks_after s n solo) Tick).solo

-- ---- the ticks left

-- of a procedure, and until a phone that is idle is taken to be gone
unfoldable pub countdowns : Solo → Option ℕ × Option ℕ
countdowns solo = (procedure_left solo.procedure, solo.reachable)

-- a countdown that runs has more than n ticks left
abbrev pub IsAbove : ℕ → Option ℕ → Type 0
IsAbove n None = Unit {0}
IsAbove n (Some left) = n < left

-- and so has each of the two
abbrev pub AreAbove : ℕ → Option ℕ × Option ℕ → Type 0
AreAbove n both = IsAbove n both.0 × IsAbove n both.1

-- n ticks less
abbrev pub less : ℕ → Option ℕ → Option ℕ
less n None = None
less n (Some left) = Some (left - n)

-- n ticks less in each of the two
abbrev pub both_less : ℕ → Option ℕ × Option ℕ → Option ℕ × Option ℕ
both_less n both = (less n both.0, less n both.1)

-- ---- ticks that end no countdown

-- n ticks less in a procedure's countdown
abbrev pub procedure_less : ℕ → Option Countdown → Option Countdown
procedure_less n None = None
procedure_less n (Some c) = Some (record c { left = c.left - n })

-- each countdown that runs has n ticks less, and all else is the same
unfoldable pub solo_aged : ℕ → Solo → Solo
solo_aged n solo = record solo { procedure = procedure_less n solo.procedure; reachable = less n solo.reachable }

-- ---- countdowns end in time

-- a countdown that runs has a tick left, and no more than the longest timer has
abbrev pub IsTimed : Option ℕ → Type 0
IsTimed None = Unit {0}
IsTimed (Some left) = (0 < left) × (left ≤ reachable_ticks)

-- and so has each of two
abbrev pub AreTimed : Option ℕ × Option ℕ → Type 0
AreTimed both = IsTimed both.0 × IsTimed both.1

-- a procedure that is counted is timed, and has what is sent again after its last tick
abbrev pub IsGoing : Option Countdown → Option Repeat → Type 0
IsGoing None repeat = Unit {0}
IsGoing (Some c) repeat = IsTimed (Some c.left) × IsSome repeat

-- and the other countdown, where it runs, is timed too
abbrev pub IsRunning : Solo → Type 0
IsRunning solo = IsGoing solo.procedure solo.repeat × IsTimed solo.reachable
