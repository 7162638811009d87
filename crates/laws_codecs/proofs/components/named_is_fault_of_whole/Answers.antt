use Rattle.laws_codecs.proofs.Formats.{whole_fault}
use Rattle.laws_codecs.proofs.components.named_is_fault_of_whole.Goals as goal

pub returns : goal.returns
returns c = whole_fault
