use Rattle.laws_mme.proofs.Plain.{nothing_plain_is_sent, stays_without_plain}
use Rattle.laws_mme.proofs.keys.nothing_plain_to_the_registered.Goals as goal

pub returns-clause-run : goal.returns-clause-run
returns-clause-run c = stays_without_plain

pub returns-clause-sent : goal.returns-clause-sent
returns-clause-sent c = nothing_plain_is_sent c.what_is_encoded.ensures.decoded
