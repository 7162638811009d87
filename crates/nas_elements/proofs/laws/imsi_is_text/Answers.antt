use Rattle.nas_elements.specs.DigitLaws as laws
use Rattle.nas_elements.proofs.laws.imsi_is_text.Goals as goal

pub returns : goal.returns
returns c = laws.imsi_text_again
