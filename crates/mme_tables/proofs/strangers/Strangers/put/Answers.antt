use Rattle.std.proofs.Common.{◌∙◌, ap}
use Rattle.std.proofs.lemmas.Result.{on_ok_weaker}
use Rattle.sorted_list.specs.Ordered.{put}
use Rattle.stranger_machine.specs.declared.table.Known.{Known}
use Rattle.stranger_machine.specs.Table.{known_id}
use Rattle.mme_tables.specs.StrangerRows.{all_now}
use Rattle.mme_tables.specs.Strangers.{StrangerTable}
use Rattle.mme_tables.proofs.Now.{put_now}
use Rattle.mme_tables.proofs.Stepping.{put_strangers_if}
use Rattle.mme_tables.proofs.strangers.Strangers.put.Goals as goal

pub invariant_of-self : goal.invariant_of-self
invariant_of-self c = put_strangers_if c.put.result c.self.inside.clock c.args.id c.args.stranger c.self.inside.sleepers c.put.new.self c.id_is_small.ensures c.self.invariant c.put.ensures.ok c.put.ensures.err

pub returns-clause-ok : goal.returns-clause-ok
returns-clause-ok c =
    let k : Known = record { id = c.args.id; stranger = c.args.stranger } in
    on_ok_weaker c.put.result (λ h. ap (all_now c.self.inside.clock) h
    ∙ put_now c.self.inside.clock c.args.id c.args.stranger c.self.inside.sleepers c.self.invariant.rows.rising
    ∙ ap (λ (v : StrangerTable). put known_id k v.strangers) c.self.view_is) c.put.ensures.ok
