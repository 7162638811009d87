use Rattle.identity_slots.proofs.Imsis.{imsis_apart}
use Rattle.identity_slots.proofs.laws.imsis_apart.Goals as goal

pub returns : goal.returns
returns c = imsis_apart
