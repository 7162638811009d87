use Rattle.emm_machine.proofs.FreshRuns.{makes_ahead, makes_once}
use Rattle.emm_machine.proofs.laws.vector_makes_one_context.Goals as goal

pub returns-clause-ahead : goal.returns-clause-ahead
returns-clause-ahead c = makes_ahead c.accepted_is_fresh.ensures.whole c.accepted_is_fresh.ensures.short

pub returns-clause-once : goal.returns-clause-once
returns-clause-once c = makes_once c.accepted_is_fresh.ensures.whole c.accepted_is_fresh.ensures.short
