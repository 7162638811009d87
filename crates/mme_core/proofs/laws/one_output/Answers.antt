use Rattle.mme_core.proofs.OneOutput.{one_output, replies_so}
use Rattle.mme_core.proofs.laws.one_output.Goals as goal

pub returns-clause-one : goal.returns-clause-one
returns-clause-one c = one_output

pub returns-clause-reply : goal.returns-clause-reply
returns-clause-reply c = replies_so
