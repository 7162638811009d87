use Rattle.laws_mme.proofs.TmsisApart.{no_two_have_one_address}
use Rattle.laws_mme.proofs.identities.addresses_are_apart.Goals as goal

pub returns : goal.returns
returns c = no_two_have_one_address
