use Rattle.laws_network.proofs.Associated.{all_are_associated}
use Rattle.laws_network.proofs.sending.each_goes_on_its_association.Goals as goal

pub returns : goal.returns
returns c = λ s solo item. all_are_associated s solo item c.what_is_encoded.ensures.decoded
