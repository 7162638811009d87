-- The timers of procedures: lengths in ticks, and how often the message is sent again.
use Rattle.std.specs.Prelude.{ℕ}
use Rattle.nas_elements.specs.Timers.{mobile_reachable_ticks, t3413_repeats, t3413_ticks, t3422_repeats, t3422_ticks, t3450_repeats, t3450_ticks, t3460_repeats, t3460_ticks, t3489_repeats, t3489_ticks}
use Rattle.emm_state.specs.declared.solo.NasTimer.{NasTimer}
use Rattle.emm_state.specs.declared.solo.NasTimer.TheVariants.{T3413, T3422, T3450, T3460, T3489}

abbrev pub ticks_of : NasTimer → ℕ
ticks_of T3413 = t3413_ticks
ticks_of T3422 = t3422_ticks
ticks_of T3450 = t3450_ticks
ticks_of T3460 = t3460_ticks
ticks_of T3489 = t3489_ticks

abbrev pub repeats_of : NasTimer → ℕ
repeats_of T3413 = t3413_repeats
repeats_of T3422 = t3422_repeats
repeats_of T3450 = t3450_repeats
repeats_of T3460 = t3460_repeats
repeats_of T3489 = t3489_repeats

-- the ticks until a phone that is idle is taken to be gone
abbrev pub reachable_ticks : ℕ
reachable_ticks = mobile_reachable_ticks
