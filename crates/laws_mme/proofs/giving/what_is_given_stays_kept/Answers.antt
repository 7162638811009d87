use Rattle.laws_mme.proofs.ActsKept.{acts_keep}
use Rattle.laws_mme.proofs.giving.what_is_given_stays_kept.Goals as goal

pub returns-clause-given : goal.returns-clause-given
returns-clause-given c = c.worlds_are_kept.ensures.given

pub returns-clause-added : goal.returns-clause-added
returns-clause-added c = c.worlds_are_kept.ensures.added

pub returns-clause-acts : goal.returns-clause-acts
returns-clause-acts c = acts_keep c.worlds_are_kept.ensures.stays c.worlds_are_kept.ensures.added c.worlds_are_kept.ensures.given
