use Rattle.laws_simulation.proofs.SlotLines.{nobody_is_printed, nobody_is_printed_from, slot_is_printed, slot_is_printed_from}
use Rattle.laws_simulation.proofs.printed.slots_are_printed.Goals as goal

pub returns-clause-trace : goal.returns-clause-trace
returns-clause-trace c = slot_is_printed c.ids_are_apart.ensures.begins c.slots_run_alone.ensures.told

pub returns-clause-absent : goal.returns-clause-absent
returns-clause-absent c = nobody_is_printed c.ids_are_apart.ensures.begins c.slots_run_alone.ensures.absent

pub returns-clause-mme : goal.returns-clause-mme
returns-clause-mme c = slot_is_printed_from c.slots_run_alone.ensures.told

pub returns-clause-mme_absent : goal.returns-clause-mme_absent
returns-clause-mme_absent c = nobody_is_printed_from c.slots_run_alone.ensures.absent
