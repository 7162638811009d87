use Rattle.laws_codecs.proofs.Frames.{one_fault, some_outcome, no_message_with_fault}
use Rattle.laws_codecs.proofs.s1ap.one_s1ap_outcome.Goals as goal

pub returns-clause-some : goal.returns-clause-some
returns-clause-some c = some_outcome c.decoded_exactly.ensures.spelled

pub returns-clause-one : goal.returns-clause-one
returns-clause-one c = no_message_with_fault c.decoded_exactly.ensures.decoded

pub returns-clause-alone : goal.returns-clause-alone
returns-clause-alone c = one_fault
