use Rattle.laws_network.proofs.Overwritten.{keys_are_overwritten}
use Rattle.laws_network.proofs.sending.keys_are_overwritten.Goals as goal

pub returns : goal.returns
returns c = keys_are_overwritten
