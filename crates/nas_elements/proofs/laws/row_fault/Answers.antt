use Rattle.nas_elements.specs.RowLaws as laws
use Rattle.nas_elements.proofs.laws.row_fault.Goals as goal

pub returns : goal.returns
returns c = laws.row_fault
