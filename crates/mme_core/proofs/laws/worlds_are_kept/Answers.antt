use Rattle.mme_core.proofs.Further.{added_kept, given_kept}
use Rattle.mme_core.proofs.Kept.{begins_kept, stays_kept}
use Rattle.mme_core.proofs.laws.worlds_are_kept.Goals as goal

pub returns-clause-begins : goal.returns-clause-begins
returns-clause-begins c =
    begins_kept c.in_use_is_kept.ensures.fresh c.soundness_is_kept.ensures.fresh c.clocks_are_kept.ensures.fresh

pub returns-clause-stays : goal.returns-clause-stays
returns-clause-stays c = stays_kept c.in_use_is_kept.ensures.run c.soundness_is_kept.ensures.run c.clocks_are_kept.ensures.run c.strangers_are_closed.ensures.run

pub returns-clause-given : goal.returns-clause-given
returns-clause-given c = given_kept

pub returns-clause-added : goal.returns-clause-added
returns-clause-added c =
    added_kept c.in_use_is_kept.ensures.fresh c.soundness_is_kept.ensures.fresh c.clocks_are_kept.ensures.fresh
