use Rattle.laws_mme.proofs.Guards.{run_is_guarded}
use Rattle.laws_mme.proofs.runs.runs_are_guarded.Goals as goal

pub returns : goal.returns
returns c =
    run_is_guarded c.soundness_is_kept.ensures.run c.protected_forms_are_marked.ensures.each
    c.protected_forms_are_marked.ensures.order c.registered_by_proof.ensures c.keys_go_to_the_proved.ensures.each
    c.keys_go_to_the_proved.ensures.run c.unproved_leaves.ensures
