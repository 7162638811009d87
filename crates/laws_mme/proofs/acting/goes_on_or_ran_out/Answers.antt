use Rattle.laws_mme.proofs.Late.{goes_on_or_ran_out}
use Rattle.laws_mme.proofs.acting.goes_on_or_ran_out.Goals as goal

pub returns : goal.returns
returns c = goes_on_or_ran_out
