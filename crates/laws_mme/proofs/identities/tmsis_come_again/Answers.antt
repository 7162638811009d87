use Rattle.laws_mme.proofs.Counters.{ids_are_new, ids_come_again, tmsis_are_counted}
use Rattle.laws_mme.proofs.identities.tmsis_come_again.Goals as goal

pub returns-clause-new : goal.returns-clause-new
returns-clause-new c = ids_are_new

pub returns-clause-again : goal.returns-clause-again
returns-clause-again c = ids_come_again

pub returns-clause-given : goal.returns-clause-given
returns-clause-given c = tmsis_are_counted
