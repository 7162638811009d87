use Rattle.laws_mme.proofs.Challenges.{attach_spends_one, vectors_are_spent_so, vectors_over_runs}
use Rattle.laws_mme.proofs.steps.vectors_are_spent_so.Goals as goal

pub returns-clause-step : goal.returns-clause-step
returns-clause-step c = vectors_are_spent_so

pub returns-clause-attach : goal.returns-clause-attach
returns-clause-attach c = attach_spends_one

pub returns-clause-run : goal.returns-clause-run
returns-clause-run c = vectors_over_runs
