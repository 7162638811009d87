use Rattle.laws_subscriber.proofs.Ending.{all_else_ends, idle_ends}
use Rattle.laws_subscriber.proofs.ends.idle_phones_are_forgotten.Goals as goal

pub returns-clause-idle : goal.returns-clause-idle
returns-clause-idle c = idle_ends

pub returns-clause-all : goal.returns-clause-all
returns-clause-all c = all_else_ends
