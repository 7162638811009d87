use Rattle.nas_elements.specs.PartLaws as laws
use Rattle.nas_elements.proofs.laws.element_is_spelled.Goals as goal

pub returns : goal.returns
returns c = laws.content_takes
