use Rattle.laws_network.proofs.SentAtEvents.{everything_is_of_an_mme}
use Rattle.laws_network.proofs.sending.everything_is_of_an_mme.Goals as goal

pub returns : goal.returns
returns c = everything_is_of_an_mme c.what_is_encoded.ensures.decoded
