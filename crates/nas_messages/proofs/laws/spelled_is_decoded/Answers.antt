use Rattle.nas_messages.proofs.EmmLaws as laws
use Rattle.nas_messages.proofs.laws.spelled_is_decoded.Goals as goal

pub returns : goal.returns
returns c = laws.decoded_again
