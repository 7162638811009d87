use Rattle.std.proofs.Common.{ap}
use Rattle.emm_machine.specs.SubscriberView.{SubscriberView}
use Rattle.emm_machine.specs.Ticks.{countdowns}
use Rattle.mme_owners.specs.Touched.{whereabouts}
use Rattle.mme_core.proofs.provisioning.push_fresh.Goals as goal

pub push-requires-clause-off : goal.push-requires-clause-off
unfolding countdowns
push-requires-clause-off c = ap (λ (w : SubscriberView). countdowns w.solo) c.in_ok-subscriber.ensures

pub push-requires-clause-away : goal.push-requires-clause-away
push-requires-clause-away c = ap (λ (w : SubscriberView). whereabouts w.solo) c.in_ok-subscriber.ensures
