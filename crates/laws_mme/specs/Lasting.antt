-- Procedures and strangers' waits last as long as is due (TS 24.301 clause 10.2).
use Rattle.std.specs.Prelude.{◌≡◌, ℕ, ◌+◌, ◌^◌, ◌<◌, ◌≤◌, true, Option, Some}
use Rattle.emm_state.specs.declared.setting.Setting.{Setting}
use Rattle.emm_state.specs.declared.solo.Context.{Context}
use Rattle.emm_state.specs.declared.solo.Countdown.{Countdown}
use Rattle.emm_state.specs.declared.solo.Solo.{Solo}
use Rattle.emm_machine.specs.Ticks.{ticks_after}
use Rattle.stranger_machine.specs.declared.state.Stranger.{Stranger}
use Rattle.stranger_machine.specs.Ticks.{stranger_ticked}
use Rattle.laws_subscriber.specs.Clocked.{IsClocked}
use Rattle.laws_subscriber.specs.Ends.{is_under_way, ticks_due}
use Rattle.laws_subscriber.specs.Strangers.{IsTimed, is_waiting, stranger_due}

-- the context has a downlink count for each time that the message may be sent again: counts have 24 bits (TS 24.301 clause 4.4.3.1)
abbrev pub HasCounts : Option Context → Option Countdown → Type 0
HasCounts (Some x) (Some c) = x.security.down_next + c.repeats ≤ 2 ^ 24
HasCounts _ _ = Unit {0}

-- with fewer ticks than are due a procedure stays in its phase
abbrev pub LastsUntilDue : Type 0
LastsUntilDue =
    (s : Setting) (solo : Solo) (n : ℕ) → IsClocked solo → is_under_way solo.phase ≡ true → HasCounts solo.context solo.procedure
    → n < ticks_due solo.procedure → (ticks_after s n solo).phase ≡ solo.phase

-- and a stranger waits
abbrev pub WaitsUntilDue : Type 0
WaitsUntilDue =
    (id : ℕ) (s : Option Stranger) (n : ℕ) → IsTimed s → is_waiting s ≡ true → n < stranger_due s
    → is_waiting (stranger_ticked id n s) ≡ true
