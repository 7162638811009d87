use Rattle.laws_mme.proofs.OwnersAlone.{stranger_goes_alone, stranger_is_told}
use Rattle.laws_mme.proofs.runs.strangers_run_alone.Goals as goal

pub returns-clause-told : goal.returns-clause-told
returns-clause-told c = stranger_is_told c.one_output.ensures.reply

pub returns-clause-state : goal.returns-clause-state
returns-clause-state c = stranger_goes_alone
