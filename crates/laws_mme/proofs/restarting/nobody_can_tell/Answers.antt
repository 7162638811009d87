use Rattle.laws_mme.proofs.Remembering.{nobody_can_tell, restarts_are_unseen}
use Rattle.laws_mme.proofs.restarting.nobody_can_tell.Goals as goal

pub returns-clause-acts : goal.returns-clause-acts
returns-clause-acts c = nobody_can_tell c.steps_look_at_two.ensures.step c.in_use_is_kept.ensures.onward

pub returns-clause-restarts : goal.returns-clause-restarts
returns-clause-restarts c = restarts_are_unseen c.steps_look_at_two.ensures.step c.in_use_is_kept.ensures.onward
