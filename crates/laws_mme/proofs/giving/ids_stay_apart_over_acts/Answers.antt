use Rattle.laws_mme.proofs.ActsKept.{acts_stay_apart}
use Rattle.laws_mme.proofs.giving.ids_stay_apart_over_acts.Goals as goal

pub returns-clause-given : goal.returns-clause-given
returns-clause-given c = c.ids_are_apart.ensures.given

pub returns-clause-added : goal.returns-clause-added
returns-clause-added c = c.ids_are_apart.ensures.added

pub returns-clause-acts : goal.returns-clause-acts
returns-clause-acts c =
    acts_stay_apart c.what_is_given_stays_kept.ensures.acts c.ids_are_apart.ensures.stays c.ids_are_apart.ensures.added c.ids_are_apart.ensures.given
