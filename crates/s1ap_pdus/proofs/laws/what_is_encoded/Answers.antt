use Rattle.s1ap_pdus.proofs.NamedLaws.{encoded_takes, encoded_again}
use Rattle.s1ap_pdus.proofs.laws.what_is_encoded.Goals as goal

pub returns-clause-spelled : goal.returns-clause-spelled
returns-clause-spelled c = encoded_takes

pub returns-clause-decoded : goal.returns-clause-decoded
returns-clause-decoded c = encoded_again
