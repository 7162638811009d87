use Rattle.std.proofs.Common.{sym, ◌∙◌, ap}
use Rattle.sorted_list.specs.Laws.{at_key, without_absent}
use Rattle.association_table.specs.Table.{association_id, found, closed}
use Rattle.association_table.proofs.table.Associations.close.Goals as goal

pub returns-in_default-clause-entries : goal.returns-in_default-clause-entries
returns-in_default-clause-entries c =
    sym (without_absent association_id c.args.id c.args.self.now.entries (sym c.find.ensures.value ∙ c.in_default.is))

pub close_found-requires : goal.close_found-requires
close_found-requires c = let k = at_key association_id c.args.id c.in-Some.association c.args.self.now.entries (sym c.find.ensures.value ∙ c.in-Some.is) in
    ap (λ i. found i c.args.self.now.entries) k ∙ sym c.find.ensures.value ∙ c.in-Some.is

pub returns-clause-entries : goal.returns-clause-entries
returns-clause-entries c = let k = at_key association_id c.args.id c.in-Some.association c.args.self.now.entries (sym c.find.ensures.value ∙ c.in-Some.is) in
    c.close_found.ensures.entries ∙ ap (λ i. closed i c.args.self.now.entries) k

pub returns-clause-gone : goal.returns-clause-gone
returns-clause-gone c = let k = at_key association_id c.args.id c.in-Some.association c.args.self.now.entries (sym c.find.ensures.value ∙ c.in-Some.is) in
    ap (λ i. found i c.close_found.new.self.entries) (sym k) ∙ c.close_found.ensures.gone
