use Rattle.std.proofs.Common.{arith}
use Rattle.std.proofs.lemmas.Grind.{common_steps}
use Rattle.per_bits.specs.Numbers.{octets_for}
use Rattle.enb_sim.proofs.writable.octets_of.Goals as goal

pub returns-then-number-clause-exact : goal.returns-then-number-clause-exact
unfolding octets_for
returns-then-number-clause-exact c = grind (arith, common_steps)

pub returns-then-number-2-clause-exact : goal.returns-then-number-2-clause-exact
unfolding octets_for
returns-then-number-2-clause-exact c = grind (arith, common_steps)

pub returns-then-number-3-clause-exact : goal.returns-then-number-3-clause-exact
unfolding octets_for
returns-then-number-3-clause-exact c = grind (arith, common_steps)

pub returns-else-number-3-clause-exact : goal.returns-else-number-3-clause-exact
unfolding octets_for
returns-else-number-3-clause-exact c = grind (arith, common_steps)
