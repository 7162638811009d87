-- T3470 of the strangers that wait for an identity (TS 24.301 clause 5.4.4), as the queue of deadlines has it.
use Rattle.std.specs.Prelude.{ℕ, ◌^◌, ◌<◌, ◌≤◌, if◌then◌else◌, List, [], ◌∷◌, Option, Some, None}
use Rattle.identity_slots.specs.Ids.{number_in, station_in}
use Rattle.nas_elements.specs.Timers.{mobile_reachable_ticks}
use Rattle.sorted_list.specs.Ordered.{Every}
use Rattle.stranger_machine.specs.declared.state.Stranger.{Stranger}
use Rattle.stranger_machine.specs.declared.state.Stranger.TheVariants.{Waiting, Held}
use Rattle.stranger_machine.specs.declared.table.Known.{Known}
use Rattle.stranger_machine.specs.Table.{stranger_at}
use Rattle.stranger_machine.specs.Ticks.{is_ending}
use Rattle.timer_queue.specs.declared.timer.Kind.TheVariants.{Procedure}
use Rattle.timer_queue.specs.declared.timer.TimerOwner.{TimerOwner}
use Rattle.timer_queue.specs.declared.timer.TimerOwner.TheVariants as owners
use Rattle.timer_queue.specs.Countdowns.{Countdown, started, stopped, timer_of}

-- whose timer T3470 of the stranger with an id is
abbrev pub stranger_owner : ℕ → TimerOwner
stranger_owner id = owners.Stranger (station_in id) (number_in id)

-- ---- the ticks left

-- of T3470, if the stranger waits
abbrev pub wait_of : Stranger → Option ℕ
wait_of (Waiting k left repeats) = Some left
wait_of (Held slot) = None

abbrev pub wait_if : Option Stranger → Option ℕ
wait_if None = None
wait_if (Some s) = wait_of s

abbrev pub wait_at : ℕ → List Known → Option ℕ
wait_at id ks = wait_if (stranger_at id ks)

-- where T3470 runs, the id is one of a stranger, and from 1 tick is left to those of the longest timer
abbrev pub IsWait : ℕ → Option ℕ → Type 0
IsWait id None = Unit {0}
IsWait id (Some left) = (2 ^ 31 ≤ id) × (id < 2 ^ 32) × (1 ≤ left) × (left ≤ mobile_reachable_ticks)

abbrev pub AreWaits : List Known → Type 0
AreWaits ks = Every (λ k. IsWait k.id (wait_of k.stranger)) ks

-- ---- as the queue has them

-- T3470 of a stranger, if it runs, before other countdowns
abbrev pub with_wait : ℕ → Option ℕ → List Countdown → List Countdown
with_wait id None cs = cs
with_wait id (Some left) cs = record { timer = timer_of (stranger_owner id) Procedure; ticks = left } ∷ cs

-- those of strangers by rising id
abbrev pub waits_of : List Known → List Countdown
waits_of [] = []
waits_of (k ∷ ks) = with_wait k.id (wait_of k.stranger) (waits_of ks)

-- where T3470 of a stranger ran before, or didn't, it runs no longer, or has these ticks left
abbrev pub wait_stopped : ℕ → Option ℕ → List Countdown → List Countdown
wait_stopped id None cs = cs
wait_stopped id (Some left) cs = stopped (stranger_owner id) Procedure cs

abbrev pub wait_changed : ℕ → Option ℕ → Option ℕ → List Countdown → List Countdown
wait_changed id before None cs = wait_stopped id before cs
wait_changed id before (Some left) cs = started (stranger_owner id) Procedure left cs

-- ---- a tick

-- the ids of those whose T3470 the next tick ends
abbrev pub due_ids : List Known → List ℕ
due_ids [] = []
due_ids (k ∷ ks) = if is_ending k.stranger then k.id ∷ due_ids ks else due_ids ks

-- T3470 of those runs on that wait again
abbrev pub restarted : List ℕ → List Known → List Countdown → List Countdown
restarted [] ks cs = cs
restarted (id ∷ ids) ks cs = restarted ids ks (wait_changed id None (wait_at id ks) cs)
