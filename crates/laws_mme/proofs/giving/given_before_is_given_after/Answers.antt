use Rattle.laws_mme.proofs.GivenAfter.{given_before_is_given_after}
use Rattle.laws_mme.proofs.giving.given_before_is_given_after.Goals as goal

pub returns : goal.returns
returns c = given_before_is_given_after
