use Rattle.std.proofs.Common.{◌++◌, List, ◌∙◌, ap}
use Rattle.mme_types.specs.Events.{Tick}
use Rattle.mme_routing.specs.Destinations.{for_all}
use Rattle.mme_answering.specs.declared.out.Out.{Out}
use Rattle.mme_answering.specs.Sending.{each_sent}
use Rattle.mme_answering.proofs.Quiet.{quiet_after, quiet_known, quiet_slots}
use Rattle.mme_answering.proofs.passing.pass.Goals as goal

pub returns-clause-silent : goal.returns-clause-silent
returns-clause-silent c =
    let ks = c.args.owners.now.strangers in
    let ws = c.args.owners.now.subscribers in
    ap (λ (os : List Out). os ++ each_sent (for_all Tick) 0 ws) (quiet_known ks c.pass.ensures.order c.requires.nobody.strangers)
    ∙ quiet_slots ws c.requires.nobody.slots

pub returns-clause-subscribers : goal.returns-clause-subscribers
returns-clause-subscribers c = c.pass.ensures.subscribers ∙ quiet_after c.args.owners.now.subscribers c.requires.nobody.slots
