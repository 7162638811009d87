-- The queue of deadlines and its index.
use Rattle.std.specs.Prelude.{◌≡◌, ℕ, ◌-◌, ◌<◌, List, [], ◌∷◌, map, nat_le, if◌then◌else◌}
use Rattle.timer_queue.specs.declared.timer.Timer.{Timer}
use Rattle.timer_queue.specs.Countdowns.{Countdown}
use Rattle.timer_queue.specs.declared.queue.Deadline.{Deadline}
use Rattle.timer_queue.specs.declared.queue.RunningTimer.{RunningTimer}
use Rattle.timer_queue.specs.Rank.{rank}
use Rattle.sorted_list.specs.Ordered.{ordered, Rising, Every, Distinct}
use Rattle.sorted_list.specs.Paired.{paired}

abbrev pub name : Deadline → ℕ
name e = rank e.timer

-- the order of the queue: by deadline, then by timer
abbrev pub moment : Deadline → ℕ
moment e = paired e.deadline (rank e.timer)

-- a deadline as a countdown
abbrev pub as_left : ℕ → Deadline → Countdown
as_left clock e = record { timer = e.timer; ticks = e.deadline - clock }

abbrev pub running_at : ℕ → List Deadline → List Countdown
running_at clock queue = map (as_left clock) (ordered name queue)

-- the part of the queue that is due at the clock, and the rest
abbrev pub leading : ℕ → List Deadline → List Timer
leading clock [] = []
leading clock (e ∷ es) = if nat_le e.deadline clock then e.timer ∷ leading clock es else []

abbrev pub later_than : ℕ → List Deadline → List Deadline
later_than clock [] = []
later_than clock (e ∷ es) = if nat_le e.deadline clock then later_than clock es else e ∷ es

pub record IsQueue (queue : List Deadline) : Type 0 where
  pub rising : Rising moment queue
  pub distinct : Distinct name queue

abbrev pub AreLate : ℕ → List Deadline → Type 0
AreLate clock queue = Every (λ e. clock < e.deadline) queue

-- the order of the index: by timer
abbrev pub index_rank : RunningTimer → ℕ
index_rank r = rank r.timer

abbrev pub as_running : Deadline → RunningTimer
as_running e = record { timer = e.timer; deadline = e.deadline }

-- the index has what the queue has, in the order of the timers
abbrev pub IsDeadlineIndex : List RunningTimer → List Deadline → Type 0
IsDeadlineIndex index queue = index ≡ map as_running (ordered name queue)
