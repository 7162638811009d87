use Rattle.laws_mme.proofs.ActsLaws.{acts_are_guarded, begun_in_use, everybody_has_proved}
use Rattle.laws_mme.proofs.acting.acts_are_guarded.Goals as goal

pub returns-clause-acts : goal.returns-clause-acts
returns-clause-acts c =
    acts_are_guarded c.in_use_is_kept.ensures.run c.soundness_is_kept.ensures.run c.clocks_are_kept.ensures.run
    (begun_in_use c.in_use_is_kept.ensures.fresh c.soundness_is_kept.ensures.fresh c.clocks_are_kept.ensures.fresh)
    c.protected_forms_are_marked.ensures.each c.protected_forms_are_marked.ensures.order c.registered_by_proof.ensures
    c.keys_go_to_the_proved.ensures.each c.unproved_leaves.ensures

pub returns-clause-from_start : goal.returns-clause-from_start
returns-clause-from_start c =
    everybody_has_proved c.in_use_is_kept.ensures.run c.soundness_is_kept.ensures.run c.clocks_are_kept.ensures.run
    (begun_in_use c.in_use_is_kept.ensures.fresh c.soundness_is_kept.ensures.fresh c.clocks_are_kept.ensures.fresh)
    c.registered_by_proof.ensures c.slots_act_alone.ensures.state c.worlds_are_kept.ensures.begins
