use Rattle.laws_mme.proofs.ActByAct.{steps_are_acts}
use Rattle.laws_mme.proofs.giving.steps_are_acts.Goals as goal

pub returns : goal.returns
returns c = steps_are_acts
