-- What a caller sees of the timers: the clock, and the running countdowns in the order of their timers.
use Rattle.std.specs.Prelude.{ℕ, ◌-◌, List, [], ◌∷◌, Option, option_map, nat_le, if◌then◌else◌}
use Rattle.timer_queue.specs.declared.timer.Timer.{Timer}
use Rattle.timer_queue.specs.declared.timer.TimerOwner.{TimerOwner}
use Rattle.timer_queue.specs.declared.timer.Kind.{Kind}
use Rattle.timer_queue.specs.Rank.{rank}
use Rattle.sorted_list.specs.Ordered.{at, put, without}

-- a timer and the ticks that it has left
pub record Countdown : Type 0 where
  pub timer : Timer
  pub ticks : ℕ

abbrev pub countdown_rank : Countdown → ℕ
countdown_rank c = rank c.timer

pub record Countdowns : Type 0 where
  pub clock : ℕ
  pub running : List Countdown
  pub room : ℕ  -- how many more can be started with no allocation

abbrev pub timer_of : TimerOwner → Kind → Timer
timer_of owner kind = record { owner = owner; kind = kind }

-- the ticks that a timer has left
abbrev pub ticks_left : TimerOwner → Kind → List Countdown → Option ℕ
ticks_left owner kind cs = option_map (λ (c : Countdown). c.ticks) (at countdown_rank (rank (timer_of owner kind)) cs)

-- with this timer's countdown in place of the one that it had
abbrev pub started : TimerOwner → Kind → ℕ → List Countdown → List Countdown
started owner kind ticks cs = put countdown_rank (record { timer = timer_of owner kind; ticks = ticks }) cs

abbrev pub stopped : TimerOwner → Kind → List Countdown → List Countdown
stopped owner kind cs = without countdown_rank (rank (timer_of owner kind)) cs

-- those that the next tick brings to zero, in order
abbrev pub due_of : List Countdown → List Timer
due_of [] = []
due_of (c ∷ cs) = if nat_le c.ticks 1 then c.timer ∷ due_of cs else due_of cs

-- those that it leaves, one less each
abbrev pub aged : List Countdown → List Countdown
aged [] = []
aged (c ∷ cs) = if nat_le c.ticks 1 then aged cs else record { timer = c.timer; ticks = c.ticks - 1 } ∷ aged cs
