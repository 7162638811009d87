use Rattle.std.proofs.Common.{◌≤◌, subst}
use Rattle.sorted_list.specs.Ordered.{Rising, Every}
use Rattle.timer_queue.specs.Countdowns.{Countdown, Countdowns, countdown_rank}
use Rattle.timer_queue.proofs.Changes.{rising_running}
use Rattle.timer_queue.proofs.Ticks.{counting}
use Rattle.timer_queue.proofs.queue.Timers.clock.Goals as goal

pub returns-clause-order : goal.returns-clause-order
returns-clause-order c =
    subst (λ (v : Countdowns). Rising countdown_rank v.running) c.self.view_is
    (rising_running c.self.inside.clock c.self.inside.queue.items c.self.invariant.1)

pub returns-clause-above_zero : goal.returns-clause-above_zero
returns-clause-above_zero c =
    subst (λ (v : Countdowns). Every (λ (x : Countdown). 1 ≤ x.ticks) v.running) c.self.view_is
    (counting c.self.inside.clock c.self.inside.queue.items c.self.invariant.2)
