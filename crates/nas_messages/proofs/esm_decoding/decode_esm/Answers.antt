use Rattle.std.proofs.Common.{arith}
use Rattle.nas_elements.specs.FitLaws.{small_each}
use Rattle.nas_messages.specs.EsmLaws.{seen_esm_fits}
use Rattle.nas_messages.proofs.esm_decoding.decode_esm.Goals as goal

pub returns-clause-writable : goal.returns-clause-writable
returns-clause-writable c =
    seen_esm_fits c.args.octets.now c.read_esm.result
    (small_each c.args.octets.now (λ i. let fits = c.type_inv.octets i in omega (arith, fits))) c.read_esm.ensures
