use Rattle.laws_network.proofs.Said.{says_of_network}
use Rattle.laws_network.proofs.sending.nas_is_of_a_network.Goals as goal

pub returns : goal.returns
returns c = says_of_network c.what_is_encoded.ensures.decoded
