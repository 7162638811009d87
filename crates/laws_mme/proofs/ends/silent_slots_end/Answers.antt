use Rattle.laws_mme.proofs.EndingWorlds.{silent_slot_ends, silent_slot_is_forgotten}
use Rattle.laws_mme.proofs.ends.silent_slots_end.Goals as goal

pub returns-clause-procedure : goal.returns-clause-procedure
returns-clause-procedure c = silent_slot_ends c.slots_end.ensures c.silent_phones_end.ensures.procedure

pub returns-clause-forgotten : goal.returns-clause-forgotten
returns-clause-forgotten c = silent_slot_is_forgotten c.slots_end.ensures c.silent_phones_end.ensures.forgotten
