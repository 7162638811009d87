use Rattle.s1ap_pdus.proofs.NamedLaws.{decoded_takes, decoded_again}
use Rattle.s1ap_pdus.proofs.laws.decoded_exactly.Goals as goal

pub returns-clause-decoded : goal.returns-clause-decoded
returns-clause-decoded c = decoded_again

pub returns-clause-spelled : goal.returns-clause-spelled
returns-clause-spelled c = decoded_takes
