use Rattle.emm_machine.proofs.FreshRuns.{accepts_ahead, accepts_once}
use Rattle.emm_machine.proofs.laws.accepted_counts_are_fresh.Goals as goal

pub returns-clause-ahead : goal.returns-clause-ahead
returns-clause-ahead c = accepts_ahead c.accepted_is_fresh.ensures.whole c.accepted_is_fresh.ensures.short

pub returns-clause-once : goal.returns-clause-once
returns-clause-once c = accepts_once c.accepted_is_fresh.ensures.whole c.accepted_is_fresh.ensures.short
