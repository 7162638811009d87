use Rattle.std.proofs.Common.{refl}
use Rattle.laws_subscriber.proofs.Ending.{clocked_runs}
use Rattle.laws_subscriber.proofs.Ticking.{stays_clocked}
use Rattle.laws_subscriber.proofs.ends.clocks_are_kept.Goals as goal

pub returns-clause-fresh : goal.returns-clause-fresh
returns-clause-fresh c = (refl, (refl, refl, refl))

pub returns-clause-run : goal.returns-clause-run
returns-clause-run c = stays_clocked

pub returns-clause-running : goal.returns-clause-running
returns-clause-running c = clocked_runs
