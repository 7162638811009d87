use Rattle.std.proofs.Common.{◌+◌, ◌∙◌, sym, ap, subst, arith}
use Rattle.timer_queue.specs.Countdowns.{Countdowns, aged}
use Rattle.timer_queue.specs.Queued.{AreLate, running_at}
use Rattle.timer_queue.proofs.Ticks.{aged_is, late_after}
use Rattle.timer_queue.proofs.queue.Timers.pass.Goals as goal

pub invariant_of-self : goal.invariant_of-self
invariant_of-self c =
    let clock = ap (λ (v : Countdowns). v.clock) c.self.view_is in
    let late = late_after (c.self.inside.clock + 1) c.self.inside.queue.items c.self.invariant.1.rising in
    (omega arith, c.drop_due.ensures.queued, subst (AreLate (c.self.inside.clock + 1)) (sym c.drop_due.ensures.queue) late, c.drop_due.ensures.indexed)

pub returns-clause-running : goal.returns-clause-running
returns-clause-running c =
    ap (running_at (c.self.inside.clock + 1)) c.drop_due.ensures.queue
    ∙ aged_is c.self.inside.clock c.self.inside.queue.items c.self.invariant.1.rising
    ∙ ap (λ (v : Countdowns). aged v.running) c.self.view_is
