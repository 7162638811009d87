use Rattle.laws_codecs.proofs.Formats.{fault_is_named}
use Rattle.laws_codecs.proofs.components.fault_is_named.Goals as goal

pub returns : goal.returns
returns c = fault_is_named
