use Rattle.laws_mme.proofs.ActsKept.{acts_join, events_are_acts}
use Rattle.laws_mme.proofs.giving.acts_join.Goals as goal

pub returns-clause-events : goal.returns-clause-events
returns-clause-events c = events_are_acts

pub returns-clause-join : goal.returns-clause-join
returns-clause-join c = acts_join
