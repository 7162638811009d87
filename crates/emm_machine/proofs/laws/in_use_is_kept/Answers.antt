use Rattle.emm_machine.proofs.FreshRuns.{goes_onward, stays}
use Rattle.emm_machine.proofs.laws.in_use_is_kept.Goals as goal

pub returns-clause-fresh : goal.returns-clause-fresh
returns-clause-fresh c = (tt, tt)

pub returns-clause-run : goal.returns-clause-run
returns-clause-run c = stays c.accepted_is_fresh.ensures.whole c.accepted_is_fresh.ensures.short

pub returns-clause-onward : goal.returns-clause-onward
returns-clause-onward c = goes_onward c.accepted_is_fresh.ensures.whole c.accepted_is_fresh.ensures.short
