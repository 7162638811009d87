use Rattle.nas_elements.specs.FitLaws as laws
use Rattle.nas_elements.proofs.laws.spelled_is_writable.Goals as goal

pub returns : goal.returns
returns c = laws.row_fits
