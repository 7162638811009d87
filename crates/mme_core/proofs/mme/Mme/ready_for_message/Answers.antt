use Rattle.std.proofs.Common.{IfOk, subst, ◌∙◌}
use Rattle.mme_core.specs.Ready.{LeadsTo}
use Rattle.mme_core.specs.World.{World}
use Rattle.mme_core.proofs.mme.Mme.ready_for_message.Goals as goal

pub returns-clause-leads : goal.returns-clause-leads
returns-clause-leads c =
    subst (λ (v : World). IfOk c.ready_for_message.result (λ r. LeadsTo v c.args.event.now r)) (c.self.view_is ∙ c.take_room-outs.ensures.same) c.ready_for_message.ensures.leads
