use Rattle.laws_mme.proofs.ActsLaws.{acts_are_fresh, begun_in_use}
use Rattle.laws_mme.proofs.acting.acts_are_fresh.Goals as goal

pub returns : goal.returns
returns c =
    acts_are_fresh c.in_use_is_kept.ensures.run c.soundness_is_kept.ensures.run c.clocks_are_kept.ensures.run
    (begun_in_use c.in_use_is_kept.ensures.fresh c.soundness_is_kept.ensures.fresh c.clocks_are_kept.ensures.fresh)
    c.sent_counts_are_fresh.ensures.ahead c.sent_counts_are_fresh.ensures.once c.accepted_counts_are_fresh.ensures.ahead
    c.accepted_counts_are_fresh.ensures.once c.vector_makes_one_context.ensures.ahead c.vector_makes_one_context.ensures.once
    c.protected_forms_are_marked.ensures.order
