use Rattle.laws_mme.proofs.EventByEvent.{steps_are_a_run}
use Rattle.laws_mme.proofs.runs.steps_are_a_run.Goals as goal

pub returns : goal.returns
returns c = steps_are_a_run
