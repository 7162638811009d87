use Rattle.std.proofs.Common.{◌∙◌, ap}
use Rattle.sorted_list.specs.Ordered.{without}
use Rattle.stranger_machine.specs.Table.{known_id}
use Rattle.mme_tables.specs.StrangerRows.{all_now}
use Rattle.mme_tables.specs.Strangers.{StrangerTable}
use Rattle.mme_tables.proofs.Now.{without_now}
use Rattle.mme_tables.proofs.Stepping.{closed_is}
use Rattle.mme_tables.proofs.strangers.Strangers.close.Goals as goal

pub invariant_of-self : goal.invariant_of-self
invariant_of-self c =
    closed_is c.self.inside.clock c.args.id c.self.inside.sleepers c.close.new.self c.self.invariant c.close.ensures

pub returns-clause-strangers : goal.returns-clause-strangers
returns-clause-strangers c =
    ap (all_now c.self.inside.clock) c.close.ensures ∙ without_now c.self.inside.clock c.args.id c.self.inside.sleepers
    ∙ ap (λ (v : StrangerTable). without known_id c.args.id v.strangers) c.self.view_is
