use Rattle.laws_mme.proofs.ActsAlone.{leaves_stranger, tells_stranger}
use Rattle.laws_mme.proofs.giving.strangers_act_alone.Goals as goal

pub returns-clause-told : goal.returns-clause-told
returns-clause-told c = tells_stranger c.what_is_given_stays_kept.ensures.acts c.one_output.ensures.reply

pub returns-clause-state : goal.returns-clause-state
returns-clause-state c = leaves_stranger c.what_is_given_stays_kept.ensures.acts
