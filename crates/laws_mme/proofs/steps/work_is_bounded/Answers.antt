use Rattle.laws_mme.proofs.Work.{sends_at_most}
use Rattle.laws_mme.proofs.steps.work_is_bounded.Goals as goal

pub returns : goal.returns
returns c = sends_at_most
