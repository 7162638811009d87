use Rattle.std.proofs.Common.{sym, ◌∙◌, ap}
use Rattle.association_table.specs.declared.association.Association.{Association}
use Rattle.association_table.specs.Table.{association_id, found, opened, closed}
use Rattle.sorted_list.specs.Laws.{at_key}
use Rattle.association_table.proofs.Stations.{moved_is}
use Rattle.association_table.proofs.table.Associations.move_to.Goals as goal

pub close_found-requires : goal.close_found-requires
close_found-requires c =
    let there = sym c.find.ensures.value ∙ c.in-Some.is in
    ap (λ i. found i c.args.self.now.entries) (at_key association_id c.args.id c.in-Some.association c.args.self.now.entries there)
    ∙ there

pub open_reserved-requires-clause-free : goal.open_reserved-requires-clause-free
open_reserved-requires-clause-free c =
    let there = sym c.find.ensures.value ∙ c.in-Some.is in
    ap (λ i. found i c.close_found.new.self.entries) (sym (at_key association_id c.args.id c.in-Some.association c.args.self.now.entries there)) ∙ c.close_found.ensures.gone

pub returns-clause-entries : goal.returns-clause-entries
returns-clause-entries c =
    let there = sym c.find.ensures.value ∙ c.in-Some.is in
    let a : Association =
    record { id = c.args.id; owner = c.in-Some.association.owner; station = c.args.station; enb_ue_id = c.args.enb_ue_id } in
    c.open_reserved.ensures.entries ∙ ap (opened a) c.close_found.ensures.entries
    ∙ ap (λ i. opened a (closed i c.args.self.now.entries))
    (at_key association_id c.args.id c.in-Some.association c.args.self.now.entries there)
    ∙ moved_is c.args.id c.args.station c.args.enb_ue_id c.in-Some.association c.args.self.now.entries c.find.ensures.order there
