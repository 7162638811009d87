use Rattle.laws_mme.proofs.KeysOfMessage.{kenbs_are_of_their_messages}
use Rattle.laws_mme.proofs.fresh_keys.kenb_is_of_its_message.Goals as goal

pub returns : goal.returns
returns c =
    kenbs_are_of_their_messages c.accepted_is_fresh.ensures.whole c.accepted_is_fresh.ensures.short
    c.what_is_encoded.ensures.decoded
