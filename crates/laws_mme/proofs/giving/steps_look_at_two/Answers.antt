use Rattle.laws_mme.proofs.Looks.{runs_look_at_two, steps_look_at_two}
use Rattle.laws_mme.proofs.giving.steps_look_at_two.Goals as goal

pub returns-clause-step : goal.returns-clause-step
returns-clause-step c = steps_look_at_two

pub returns-clause-run : goal.returns-clause-run
returns-clause-run c = runs_look_at_two
