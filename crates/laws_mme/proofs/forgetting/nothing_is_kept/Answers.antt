use Rattle.laws_mme.proofs.Left.{everybody_has_left, who_is_deregistered_has_left}
use Rattle.laws_mme.proofs.forgetting.nothing_is_kept.Goals as goal

pub returns-clause-one : goal.returns-clause-one
returns-clause-one c =
    who_is_deregistered_has_left c.soundness_is_kept.ensures.fresh c.soundness_is_kept.ensures.run c.clocks_are_kept.ensures.fresh
    c.clocks_are_kept.ensures.run

pub returns-clause-all : goal.returns-clause-all
returns-clause-all c =
    everybody_has_left c.soundness_is_kept.ensures.fresh c.soundness_is_kept.ensures.run c.clocks_are_kept.ensures.fresh
    c.clocks_are_kept.ensures.run
