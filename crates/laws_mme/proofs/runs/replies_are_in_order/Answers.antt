use Rattle.laws_mme.proofs.OwnersAlone.{replies_are_in_order}
use Rattle.laws_mme.proofs.runs.replies_are_in_order.Goals as goal

pub returns : goal.returns
returns c = replies_are_in_order c.one_output.ensures.reply
