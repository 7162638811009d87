use Rattle.laws_subscriber.proofs.Strangers.{closed_in_time, closed_when_due, stays_timed, tick_takes_one}
use Rattle.laws_subscriber.proofs.ends.strangers_are_closed.Goals as goal

pub returns-clause-run : goal.returns-clause-run
returns-clause-run c = stays_timed

pub returns-clause-tick : goal.returns-clause-tick
returns-clause-tick c = tick_takes_one

pub returns-clause-due : goal.returns-clause-due
returns-clause-due c = closed_when_due

pub returns-clause-most : goal.returns-clause-most
returns-clause-most c = closed_in_time
