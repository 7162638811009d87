use Rattle.laws_mme.proofs.Reached.{messages_reach}
use Rattle.laws_mme.proofs.ids.messages_reach_their_phone.Goals as goal

pub returns : goal.returns
returns c = messages_reach
