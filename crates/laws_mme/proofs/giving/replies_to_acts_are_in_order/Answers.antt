use Rattle.laws_mme.proofs.ActsAlone.{tells_in_order}
use Rattle.laws_mme.proofs.giving.replies_to_acts_are_in_order.Goals as goal

pub returns : goal.returns
returns c = tells_in_order c.what_is_given_stays_kept.ensures.acts c.one_output.ensures.reply
