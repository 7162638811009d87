use Rattle.laws_mme.proofs.ActsLaws.{acts_end, all_ends_after, begun_in_use}
use Rattle.laws_mme.proofs.acting.acts_end.Goals as goal

pub returns-clause-acts : goal.returns-clause-acts
returns-clause-acts c =
    acts_end c.in_use_is_kept.ensures.run c.soundness_is_kept.ensures.run c.clocks_are_kept.ensures.run
    (begun_in_use c.in_use_is_kept.ensures.fresh c.soundness_is_kept.ensures.fresh c.clocks_are_kept.ensures.fresh)
    c.silent_phones_end.ensures.procedure c.silent_phones_end.ensures.forgotten

pub returns-clause-all : goal.returns-clause-all
returns-clause-all c = all_ends_after c.what_is_given_stays_kept.ensures.acts c.everything_ends.ensures.all
