use Rattle.nas_messages.specs.Messages.{encoded_emm}
use Rattle.nas_messages.proofs.EmmLaws as laws
use Rattle.nas_messages.proofs.laws.encoded_is_decoded.Goals as goal

pub returns : goal.returns
returns c = λ direction m f g. laws.decoded_again direction m (encoded_emm m) (laws.written_emm direction m f g)
