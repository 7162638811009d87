use Rattle.std.proofs.Common.{subst}
use Rattle.sorted_list.specs.Ordered.{Rising}
use Rattle.stranger_machine.specs.Table.{known_id}
use Rattle.mme_tables.specs.Strangers.{StrangerTable}
use Rattle.mme_tables.proofs.Now.{rising_now}
use Rattle.mme_tables.proofs.strangers.Strangers.clock.Goals as goal

pub returns-clause-order : goal.returns-clause-order
returns-clause-order c =
    subst (λ (v : StrangerTable). Rising known_id v.strangers) c.self.view_is
    (rising_now c.self.inside.clock c.self.inside.sleepers c.self.invariant.rows.rising)
