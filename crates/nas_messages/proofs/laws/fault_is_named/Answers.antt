use Rattle.nas_messages.proofs.EmmLaws as laws
use Rattle.nas_messages.proofs.laws.fault_is_named.Goals as goal

pub returns : goal.returns
returns c = laws.refused
