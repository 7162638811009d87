use Rattle.laws_codecs.proofs.Formats.{named_is_fault}
use Rattle.laws_codecs.proofs.components.named_is_fault.Goals as goal

pub returns : goal.returns
returns c = named_is_fault
