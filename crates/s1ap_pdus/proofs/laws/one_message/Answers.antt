use Rattle.s1ap_pdus.proofs.NamedLaws.{one_message}
use Rattle.s1ap_pdus.proofs.laws.one_message.Goals as goal

pub returns : goal.returns
returns c = one_message
