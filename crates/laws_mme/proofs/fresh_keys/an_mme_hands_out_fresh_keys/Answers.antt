use Rattle.laws_mme.proofs.KeysOfMme.{mme_keys_are_fresh}
use Rattle.laws_mme.proofs.fresh_keys.an_mme_hands_out_fresh_keys.Goals as goal

pub returns : goal.returns
returns c =
    mme_keys_are_fresh c.keys_are_fresh.ensures c.slots_run_alone.ensures.told c.slots_end.ensures c.worlds_are_kept.ensures.begins
    c.worlds_are_kept.ensures.stays
