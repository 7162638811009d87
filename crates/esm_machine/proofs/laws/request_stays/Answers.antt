use Rattle.esm_machine.proofs.BearerLaws.{stays}
use Rattle.esm_machine.proofs.laws.request_stays.Goals as goal

pub returns : goal.returns
returns c = stays
