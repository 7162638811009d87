use Rattle.laws_simulation.proofs.BegunRuns.{begins_fresh}
use Rattle.laws_simulation.proofs.printed.runs_begin_fresh.Goals as goal

pub returns : goal.returns
returns c = begins_fresh
