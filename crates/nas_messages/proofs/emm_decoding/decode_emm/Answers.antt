use Rattle.std.proofs.Common.{arith}
use Rattle.nas_elements.specs.FitLaws.{small_each}
use Rattle.nas_messages.proofs.EmmLaws.{seen_fits}
use Rattle.nas_messages.proofs.emm_decoding.decode_emm.Goals as goal

pub returns-clause-writable : goal.returns-clause-writable
returns-clause-writable c =
    seen_fits c.args.direction c.args.octets.now c.read_emm.result
    (small_each c.args.octets.now (λ i. let fits = c.type_inv.octets i in omega (arith, fits))) c.read_emm.ensures
