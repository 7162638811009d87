use Rattle.laws_codecs.proofs.Formats.{fault_of_whole}
use Rattle.laws_codecs.proofs.components.fault_of_whole_is_named.Goals as goal

pub returns : goal.returns
returns c = fault_of_whole
