use Rattle.std.proofs.Common.{arith}
use Rattle.nas_security.proofs.Estimates.{near_high}
use Rattle.nas_security.proofs.counts.near.Goals as goal

pub returns-else-low-bits : goal.returns-else-low-bits
returns-else-low-bits c =
    near_high c.args.first c.args.bits c.args.modulus c.requires.bits c.if-low-bits.false (omega (arith, c.requires.bits))
