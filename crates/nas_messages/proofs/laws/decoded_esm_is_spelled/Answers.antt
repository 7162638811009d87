use Rattle.nas_messages.specs.EsmLaws as laws
use Rattle.nas_messages.proofs.laws.decoded_esm_is_spelled.Goals as goal

pub returns : goal.returns
returns c = laws.esm_takes
