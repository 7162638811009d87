use Rattle.laws_mme.proofs.Unseen.{nobody_sees}
use Rattle.laws_mme.proofs.forgetting.nobody_sees_what_is_kept.Goals as goal

pub returns : goal.returns
returns c = nobody_sees
