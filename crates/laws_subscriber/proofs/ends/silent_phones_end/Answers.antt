use Rattle.laws_subscriber.proofs.Silent.{silent_ends, silent_is_forgotten}
use Rattle.laws_subscriber.proofs.ends.silent_phones_end.Goals as goal

pub returns-clause-procedure : goal.returns-clause-procedure
returns-clause-procedure c = silent_ends

pub returns-clause-forgotten : goal.returns-clause-forgotten
returns-clause-forgotten c = silent_is_forgotten
