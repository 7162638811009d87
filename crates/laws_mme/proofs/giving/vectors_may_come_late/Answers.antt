use Rattle.laws_mme.proofs.Looks.{vectors_may_come_late}
use Rattle.laws_mme.proofs.giving.vectors_may_come_late.Goals as goal

pub returns : goal.returns
returns c = vectors_may_come_late c.soundness_is_kept.ensures.run
