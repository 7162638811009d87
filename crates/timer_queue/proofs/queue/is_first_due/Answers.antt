use Rattle.std.proofs.Common.{sym, ◌∙◌}
use Rattle.timer_queue.proofs.Ticks.{first_tells, none_leads}
use Rattle.timer_queue.proofs.queue.is_first_due.Goals as goal

pub returns-in-Some : goal.returns-in-Some
returns-in-Some c = first_tells c.args.clock c.in-Some.first c.args.queue.now.items (sym c.first.ensures ∙ c.in-Some.is)

pub returns-in-None : goal.returns-in-None
returns-in-None c = none_leads c.args.clock c.args.queue.now.items (sym c.first.ensures ∙ c.in-None.is)
