-- Countdowns of slots: two of each, of a procedure and of an idle phone, as what each slot has left and as the queue has them.
use Rattle.std.specs.Prelude.{◌≡◌, ℕ, ◌+◌, ◌-◌, ◌≤◌, nat_le, ◌==◌, ◌||◌, Bool, false, List, [], ◌∷◌, Option, Some, None, if◌then◌else◌}
use Rattle.nas_elements.specs.Timers.{mobile_reachable_ticks}
use Rattle.mme_tables.specs.Whereabouts.{slots_where}
use Rattle.timer_queue.specs.declared.timer.Kind.{Kind}
use Rattle.timer_queue.specs.declared.timer.Kind.TheVariants.{Procedure, Reachable}
use Rattle.timer_queue.specs.declared.timer.TimerOwner.TheVariants.{Subscriber}
use Rattle.timer_queue.specs.Countdowns.{Countdown, started, stopped, ticks_left, timer_of}

-- ---- as the queue has them

-- a countdown of a slot, if it runs, before others
abbrev pub with_countdown : ℕ → Kind → Option ℕ → List Countdown → List Countdown
with_countdown slot kind None cs = cs
with_countdown slot kind (Some ticks) cs = record { timer = timer_of (Subscriber slot) kind; ticks = ticks } ∷ cs

-- those that run, by slot from n on, and of one slot the procedure's first
abbrev pub running_from : ℕ → List (Option ℕ × Option ℕ) → List Countdown
running_from n [] = []
running_from n (p ∷ ps) = with_countdown n Procedure p.0 (with_countdown n Reachable p.1 (running_from (n + 1) ps))

abbrev pub is_this : ℕ → Option ℕ → Bool
is_this n None = false
is_this n (Some m) = m == n

-- with a slot's countdown as it is to be; one that is so already stays in its place
abbrev pub retimed : ℕ → Kind → Option ℕ → List Countdown → List Countdown
retimed slot kind None cs = stopped (Subscriber slot) kind cs
retimed slot kind (Some ticks) cs =
    if is_this ticks (ticks_left (Subscriber slot) kind cs) then cs else started (Subscriber slot) kind ticks cs

abbrev pub both_retimed : ℕ → Option ℕ × Option ℕ → List Countdown → List Countdown
both_retimed slot p cs = retimed slot Reachable p.1 (retimed slot Procedure p.0 cs)

-- the queue has these of a slot
abbrev pub AreQueued : ℕ → Option ℕ × Option ℕ → List Countdown → Type 0
AreQueued slot p cs = (ticks_left (Subscriber slot) Procedure cs ≡ p.0) × (ticks_left (Subscriber slot) Reachable cs ≡ p.1)

-- ---- as the slots have them

abbrev pub part_of : Kind → Option ℕ × Option ℕ → Option ℕ
part_of Procedure p = p.0
part_of Reachable p = p.1

abbrev pub with_part : Kind → Option ℕ → Option ℕ × Option ℕ → Option ℕ × Option ℕ
with_part Procedure o p = (o, p.1)
with_part Reachable o p = (p.0, o)

-- a countdown that runs has from 1 tick left to those of the longest timer, and so has each of two
abbrev pub IsInRange : Option ℕ → Type 0
IsInRange None = Unit {0}
IsInRange (Some left) = (1 ≤ left) × (left ≤ mobile_reachable_ticks)

abbrev pub AreInRange : Option ℕ × Option ℕ → Type 0
AreInRange p = IsInRange p.0 × IsInRange p.1

-- ---- a tick

-- it is met by the next tick
abbrev pub is_last : Option ℕ → Bool
is_last None = false
is_last (Some left) = nat_le left 1

abbrev pub is_due : Option ℕ × Option ℕ → Bool
is_due p = is_last p.0 || is_last p.1

-- the slots, from n on, of which a countdown is met by the next tick
abbrev pub due_from : ℕ → List (Option ℕ × Option ℕ) → List ℕ
due_from n ps = slots_where is_due n ps

-- what a tick leaves of a countdown
abbrev pub left_by_tick : Option ℕ → Option ℕ
left_by_tick None = None
left_by_tick (Some left) = if nat_le left 1 then None else Some (left - 1)

abbrev pub both_left_by_tick : Option ℕ × Option ℕ → Option ℕ × Option ℕ
both_left_by_tick p = (left_by_tick p.0, left_by_tick p.1)
