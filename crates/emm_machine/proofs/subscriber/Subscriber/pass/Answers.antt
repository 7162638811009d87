use Rattle.std.proofs.Common.{refl}
use Rattle.emm_machine.specs.Ticks.{ticks_after}
use Rattle.emm_machine.proofs.subscriber.Subscriber.pass.Goals as goal

pub returns-then-ticks-eq0 : goal.returns-then-ticks-eq0
unfolding ticks_after
returns-then-ticks-eq0 c = rw c.if-ticks-eq0.true refl
