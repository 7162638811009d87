use Rattle.laws_mme.proofs.ProceduresLast.{lasts_until_due}
use Rattle.laws_mme.proofs.lasting.procedures_last.Goals as goal

pub returns : goal.returns
returns c = lasts_until_due c.clocks_are_kept.ensures.run
