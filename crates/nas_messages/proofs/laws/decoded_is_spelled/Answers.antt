use Rattle.nas_messages.proofs.EmmLaws as laws
use Rattle.nas_messages.proofs.laws.decoded_is_spelled.Goals as goal

pub returns : goal.returns
returns c = laws.decoded_takes
