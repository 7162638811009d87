use Rattle.laws_mme.proofs.SameStranger.{same_stranger_from_mme, same_to_stranger}
use Rattle.laws_mme.proofs.runs.same_to_stranger.Goals as goal

pub returns-clause-machine : goal.returns-clause-machine
returns-clause-machine c = same_to_stranger

pub returns-clause-mme : goal.returns-clause-mme
returns-clause-mme c = same_stranger_from_mme c.one_output.ensures.reply
