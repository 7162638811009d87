use Rattle.laws_codecs.proofs.EmmFaults.{named}
use Rattle.laws_codecs.proofs.nas.named_is_emm_fault.Goals as goal

pub returns : goal.returns
returns c = named c.decoded_is_spelled.ensures c.fault_is_named.ensures
