use Rattle.nas_messages.specs.EsmLaws as laws
use Rattle.nas_messages.proofs.laws.spelled_esm_is_decoded.Goals as goal

pub returns : goal.returns
returns c = laws.esm_again
