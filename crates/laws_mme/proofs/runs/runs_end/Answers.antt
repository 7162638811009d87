use Rattle.laws_mme.proofs.Guards.{run_ends}
use Rattle.laws_mme.proofs.runs.runs_end.Goals as goal

pub returns : goal.returns
returns c =
    run_ends c.clocks_are_kept.ensures.run c.silent_phones_end.ensures.procedure c.silent_phones_end.ensures.forgotten
