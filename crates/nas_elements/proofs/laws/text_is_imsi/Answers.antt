use Rattle.nas_elements.specs.DigitLaws as laws
use Rattle.nas_elements.proofs.laws.text_is_imsi.Goals as goal

pub returns : goal.returns
returns c = laws.text_again
