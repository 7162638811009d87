use Rattle.mme_core.proofs.Alone.{slots_end}
use Rattle.mme_core.proofs.laws.slots_end.Goals as goal

pub returns : goal.returns
returns c = slots_end
