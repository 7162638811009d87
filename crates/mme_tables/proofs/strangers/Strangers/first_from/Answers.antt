use Rattle.std.proofs.Common.{◌∙◌, sym, ap, subst}
use Rattle.std.specs.Prelude.{option_map}
use Rattle.sorted_list.specs.Ordered.{Rising}
use Rattle.sorted_list.specs.Sorted.{lowest_from}
use Rattle.stranger_machine.specs.Table.{known_id}
use Rattle.mme_tables.specs.Strangers.{StrangerTable}
use Rattle.mme_tables.proofs.Now.{lowest_now, rising_now}
use Rattle.mme_tables.proofs.strangers.Strangers.first_from.Goals as goal

pub returns-clause-value : goal.returns-clause-value
returns-clause-value c =
    c.first_from.ensures ∙ sym (lowest_now c.self.inside.clock c.args.least c.self.inside.sleepers)
    ∙ ap (λ (v : StrangerTable). option_map known_id (lowest_from known_id c.args.least v.strangers)) c.self.view_is

pub returns-clause-order : goal.returns-clause-order
returns-clause-order c =
    subst (λ (v : StrangerTable). Rising known_id v.strangers) c.self.view_is
    (rising_now c.self.inside.clock c.self.inside.sleepers c.self.invariant.rows.rising)
