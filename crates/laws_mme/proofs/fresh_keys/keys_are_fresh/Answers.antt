use Rattle.laws_mme.proofs.KeyRuns.{keys_are_fresh}
use Rattle.laws_mme.proofs.fresh_keys.keys_are_fresh.Goals as goal

pub returns : goal.returns
returns c = keys_are_fresh c.accepted_is_fresh.ensures.whole c.accepted_is_fresh.ensures.short c.what_is_encoded.ensures.decoded
