use Rattle.laws_subscriber.proofs.Leaving.{unproved_leaves}
use Rattle.laws_subscriber.proofs.admission.unproved_leaves.Goals as goal

pub returns : goal.returns
returns c = unproved_leaves
