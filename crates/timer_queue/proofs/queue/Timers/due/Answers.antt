use Rattle.std.proofs.Common.{◌≡◌, ◌∙◌, ap, sym, IfOk, subst}
use Rattle.timer_queue.specs.Countdowns.{Countdowns, due_of}
use Rattle.timer_queue.proofs.Ticks.{due_is}
use Rattle.timer_queue.proofs.queue.Timers.due.Goals as goal

pub returns-then-not-is_first_due : goal.returns-then-not-is_first_due
returns-then-not-is_first_due c =
    let e = due_is c.self.inside.clock c.self.inside.queue.items c.self.invariant.1 c.self.invariant.2 ∙ ap (λ (v : Countdowns). due_of v.running) c.self.view_is in
    c.new.ensures.items ∙ sym (c.is_first_due.ensures.0 c.if-not-is_first_due.true) ∙ e

pub returns : goal.returns
returns c =
    let e = due_is c.self.inside.clock c.self.inside.queue.items c.self.invariant.1 c.self.invariant.2 ∙ ap (λ (v : Countdowns). due_of v.running) c.self.view_is in
    subst (λ ts. IfOk c.due_at.result (λ due. due.items ≡ ts)) e c.due_at.ensures
