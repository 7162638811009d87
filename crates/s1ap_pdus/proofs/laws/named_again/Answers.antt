use Rattle.s1ap_pdus.proofs.NamedLaws.{named_of_typed}
use Rattle.s1ap_pdus.proofs.laws.named_again.Goals as goal

pub returns : goal.returns
returns c = named_of_typed
