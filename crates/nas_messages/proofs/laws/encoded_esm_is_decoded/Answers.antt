use Rattle.nas_messages.specs.EsmMessages.{encoded_esm}
use Rattle.nas_messages.specs.EsmLaws as laws
use Rattle.nas_messages.proofs.laws.encoded_esm_is_decoded.Goals as goal

pub returns : goal.returns
returns c = λ m f. laws.esm_again m (encoded_esm m) (laws.written_esm m f)
