use Rattle.esm_machine.proofs.BearerLaws.{is_awaited}
use Rattle.esm_machine.proofs.laws.informed_is_awaited.Goals as goal

pub returns : goal.returns
returns c = is_awaited
