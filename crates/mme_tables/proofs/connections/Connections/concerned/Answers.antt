use Rattle.std.proofs.Common.{◌≡◌, map, sym, ◌∙◌, ap, subst, List}
use Rattle.std.specs.List.{list_any}
use Rattle.std.proofs.lemmas.Result.{IfOk-weaker}
use Rattle.association_table.specs.declared.association.Association.{Association}
use Rattle.association_table.specs.Table.{at_station}
use Rattle.mme_tables.specs.declared.slots.OrderedSlot.{OrderedSlot}
use Rattle.mme_tables.specs.Whereabouts.{slots_where}
use Rattle.mme_tables.specs.Whereabouts.{ConnectionTable, is_concerned}
use Rattle.mme_tables.specs.KeptPlaces.{is_held, slot_rank, Gathers}
use Rattle.mme_tables.proofs.Meant.{concerned_held, none_concerned}
use Rattle.mme_tables.proofs.connections.Connections.concerned.Goals as goal

pub returns-then-is_nobody : goal.returns-then-is_nobody
returns-then-is_nobody c =
    let e = c.args.station in
    let es = c.self.inside.associations.entries in
    let none = c.is_nobody.ensures c.if-is_nobody.true in
    let there = c.as_slice.ensures.value ∙ c.in_ok-there.ensures.value ∙ ap (λ n. at_station n es) c.get.ensures.value in
    c.new.ensures.items
    ∙ none_concerned e c.self.inside.by_slot.items es c.self.inside.paged.items c.self.invariant c.entries_at.ensures.order (sym there ∙ none.0) none.1
    ∙ ap (λ (t : ConnectionTable). slots_where (is_concerned e) 0 t.whereabouts) c.self.view_is

pub returns : goal.returns
returns c =
    let e = c.args.station in
    let es = c.self.inside.associations.entries in
    let paged = c.self.inside.paged.items in
    let last = c.gather_owners.new.gathered.items in
    let there = c.as_slice-2.ensures.value ∙ c.in_ok-there.ensures.value ∙ ap (λ n. at_station n es) c.get.ensures.value in
    let so =
    subst (λ (ss : List OrderedSlot). Gathers (λ i. list_any (is_held i) (at_station e es)) ss last) c.in_ok-gathered.ensures.items
    (subst (λ (xs : List Association). Gathers (λ i. list_any (is_held i) xs) c.in_ok-gathered.gathered.items last) there c.in_ok-gather_owners.ensures) in
    let held = concerned_held e c.self.inside.by_slot.items es paged last c.self.invariant c.entries_at.ensures.order so in
    IfOk-weaker c.slots_of.result (λ s. s.items ≡ map slot_rank last)
    (λ s. s.items ≡ slots_where (is_concerned e) 0 c.args.self.now.whereabouts)
    (λ s is. is ∙ held ∙ ap (λ (t : ConnectionTable). slots_where (is_concerned e) 0 t.whereabouts) c.self.view_is) c.slots_of.ensures
