use Rattle.std.proofs.Common.{arith, refl, append_assoc}
use Rattle.per_bits.specs.Writing.{write_aligned}
use Rattle.per_streams.specs.WholeOctets.{bytes-below}
use Rattle.per_bits.proofs.strings.put_aligned.Goals as goal

pub returns : goal.returns
unfolding write_aligned
returns c =
    rw (
      bytes-below c.args.octets.now (λ i. let h = c.type_inv.octets i in omega (arith, h)),
      c.in_ok-put_octets.ensures.ok,
      c.in_ok-align.ensures.ok,
      append_assoc,
    ) refl
