use Rattle.std.proofs.Common.{arith}
use Rattle.per_streams.specs.WholeOctets.{bytes-below}
use Rattle.laws_network.proofs.provisioned.octets_are_below.Goals as goal

pub returns : goal.returns
returns c = bytes-below c.args.octets.now (λ i. let h = c.type_inv.octets i in omega (arith, h))
