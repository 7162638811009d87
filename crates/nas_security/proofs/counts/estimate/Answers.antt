use Rattle.nas_security.proofs.Estimates.{estimate_near, estimate_spent}
use Rattle.nas_security.proofs.counts.estimate.Goals as goal

pub returns-then-count : goal.returns-then-count
returns-then-count c =
    estimate_near c.args.last c.args.bits c.args.modulus _ (rw c.first_after.ensures.value at c.near-count.ensures) c.if-count.true

pub returns-else-count : goal.returns-else-count
returns-else-count c =
    estimate_spent c.args.last c.args.bits c.args.modulus _
    (rw c.first_after.ensures.value at c.near-count.ensures) c.if-count.false
