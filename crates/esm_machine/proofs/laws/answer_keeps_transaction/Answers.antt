use Rattle.esm_machine.proofs.BearerLaws.{keeps_transaction}
use Rattle.esm_machine.proofs.laws.answer_keeps_transaction.Goals as goal

pub returns : goal.returns
returns c = keeps_transaction
