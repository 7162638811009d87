use Rattle.nas_elements.specs.PartLaws as laws
use Rattle.nas_elements.proofs.laws.spelled_is_element.Goals as goal

pub returns : goal.returns
returns c = laws.content_again
