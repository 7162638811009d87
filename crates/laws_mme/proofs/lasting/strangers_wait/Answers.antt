use Rattle.laws_mme.proofs.StrangersWait.{waits_until_due}
use Rattle.laws_mme.proofs.lasting.strangers_wait.Goals as goal

pub returns : goal.returns
returns c = waits_until_due
