use Rattle.laws_codecs.proofs.EsmFaults.{named}
use Rattle.laws_codecs.proofs.nas.named_is_esm_fault.Goals as goal

pub returns : goal.returns
returns c = named c.decoded_esm_is_spelled.ensures c.fault_of_esm_is_named.ensures
