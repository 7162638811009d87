use Rattle.std.proofs.Common.{◌≡◌, ◌↔◌, ◌∙◌, [], ap, false, subst}
use Rattle.timer_queue.specs.Countdowns.{Countdowns, due_of}
use Rattle.timer_queue.proofs.Ticks.{due_is}
use Rattle.timer_queue.proofs.queue.Timers.is_due.Goals as goal

pub returns : goal.returns
returns c =
    let e = due_is c.self.inside.clock c.self.inside.queue.items c.self.invariant.1 c.self.invariant.2 ∙ ap (λ (v : Countdowns). due_of v.running) c.self.view_is in
    subst (λ ts. (c.is_first_due.result ≡ false) ↔ (ts ≡ [])) e c.is_first_due.ensures
