use Rattle.laws_mme.proofs.ActsAlone.{leaves_slot, states_of_slot, tells_slot}
use Rattle.laws_mme.proofs.giving.slots_act_alone.Goals as goal

pub returns-clause-told : goal.returns-clause-told
returns-clause-told c = tells_slot c.what_is_given_stays_kept.ensures.acts c.one_output.ensures.reply c.slots_end.ensures

pub returns-clause-states : goal.returns-clause-states
returns-clause-states c = states_of_slot c.what_is_given_stays_kept.ensures.acts c.slots_end.ensures

pub returns-clause-state : goal.returns-clause-state
returns-clause-state c = leaves_slot c.what_is_given_stays_kept.ensures.acts c.slots_end.ensures
