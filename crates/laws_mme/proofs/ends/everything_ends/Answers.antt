use Rattle.laws_mme.proofs.EndingWorlds.{all_are_forgotten, all_ends_in_time, every_run_ends, ticks_reach_everyone}
use Rattle.laws_mme.proofs.ends.everything_ends.Goals as goal

pub returns-clause-reach : goal.returns-clause-reach
returns-clause-reach c = ticks_reach_everyone

pub returns-clause-all : goal.returns-clause-all
returns-clause-all c =
    all_ends_in_time c.strangers_are_closed.ensures.run c.strangers_are_closed.ensures.tick c.procedures_end.ensures.most

pub returns-clause-from_start : goal.returns-clause-from_start
returns-clause-from_start c =
    every_run_ends c.worlds_are_kept.ensures.begins c.worlds_are_kept.ensures.stays c.strangers_are_closed.ensures.run c.strangers_are_closed.ensures.tick c.procedures_end.ensures.most

pub returns-clause-forgotten : goal.returns-clause-forgotten
returns-clause-forgotten c = all_are_forgotten c.idle_phones_are_forgotten.ensures.all
