use Rattle.nas_messages.specs.EsmLaws as laws
use Rattle.nas_messages.proofs.laws.fault_of_esm_is_named.Goals as goal

pub returns : goal.returns
returns c = laws.esm_refused
