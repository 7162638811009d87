use Rattle.nas_security.proofs.Estimates.{estimated, not_estimated}
use Rattle.nas_security.proofs.laws.estimate_is_least.Goals as goal

pub returns-clause-some : goal.returns-clause-some
returns-clause-some c = estimated

pub returns-clause-none : goal.returns-clause-none
returns-clause-none c = not_estimated
