use Rattle.laws_mme.proofs.OwnersAlone.{nobody_is_told, slot_goes_through_states, slot_is_told}
use Rattle.laws_mme.proofs.runs.slots_run_alone.Goals as goal

pub returns-clause-told : goal.returns-clause-told
returns-clause-told c = slot_is_told c.one_output.ensures.reply c.slots_end.ensures

pub returns-clause-states : goal.returns-clause-states
returns-clause-states c = slot_goes_through_states c.slots_end.ensures

pub returns-clause-absent : goal.returns-clause-absent
returns-clause-absent c = nobody_is_told c.one_output.ensures.reply
