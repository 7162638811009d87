use Rattle.laws_mme.proofs.GivenEarly.{given_early_is_given_late}
use Rattle.laws_mme.proofs.GivenFresh.{begun_early_is_given_late}
use Rattle.laws_mme.proofs.giving.given_early_is_given_late.Goals as goal

pub returns-clause-acts : goal.returns-clause-acts
returns-clause-acts c = given_early_is_given_late c.what_is_given_stays_kept.ensures.acts c.what_is_given_stays_kept.ensures.given

pub returns-clause-from_start : goal.returns-clause-from_start
returns-clause-from_start c =
    begun_early_is_given_late c.worlds_are_kept.ensures.begins
    (given_early_is_given_late c.what_is_given_stays_kept.ensures.acts c.what_is_given_stays_kept.ensures.given)
