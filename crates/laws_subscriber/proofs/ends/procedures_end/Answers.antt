use Rattle.laws_subscriber.proofs.Ending.{ends_in_time, ends_when_due}
use Rattle.laws_subscriber.proofs.ends.procedures_end.Goals as goal

pub returns-clause-due : goal.returns-clause-due
returns-clause-due c = ends_when_due

pub returns-clause-most : goal.returns-clause-most
returns-clause-most c = ends_in_time
