use Rattle.esm_machine.proofs.BearerLaws.{is_read}
use Rattle.esm_machine.proofs.laws.activation_is_read.Goals as goal

pub returns : goal.returns
returns c = is_read
