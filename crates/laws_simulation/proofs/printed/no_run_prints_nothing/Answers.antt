use Rattle.laws_simulation.proofs.BegunRuns.{nothing_printed}
use Rattle.laws_simulation.proofs.printed.no_run_prints_nothing.Goals as goal

pub returns : goal.returns
returns c = nothing_printed
