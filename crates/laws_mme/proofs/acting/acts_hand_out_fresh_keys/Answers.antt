use Rattle.laws_mme.proofs.ActsLaws.{acts_hand_out_fresh_keys}
use Rattle.laws_mme.proofs.acting.acts_hand_out_fresh_keys.Goals as goal

pub returns : goal.returns
returns c =
    acts_hand_out_fresh_keys c.accepted_is_fresh.ensures.whole c.accepted_is_fresh.ensures.short c.what_is_encoded.ensures.decoded
    c.one_output.ensures.reply c.slots_end.ensures c.what_is_given_stays_kept.ensures.acts c.slots_act_alone.ensures.state
    c.worlds_are_kept.ensures.begins
