use Rattle.mme_core.proofs.SameToSlot.{same_from_mme, same_to_slot}
use Rattle.mme_core.proofs.laws.same_to_slot.Goals as goal

pub returns-clause-machine : goal.returns-clause-machine
returns-clause-machine c = same_to_slot

pub returns-clause-mme : goal.returns-clause-mme
returns-clause-mme c = same_from_mme
