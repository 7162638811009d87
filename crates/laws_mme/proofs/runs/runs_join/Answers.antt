use Rattle.laws_mme.proofs.EventByEvent.{replies_join, worlds_join}
use Rattle.laws_mme.proofs.runs.runs_join.Goals as goal

pub returns-clause-replies : goal.returns-clause-replies
returns-clause-replies c = replies_join

pub returns-clause-worlds : goal.returns-clause-worlds
returns-clause-worlds c = worlds_join
