use Rattle.std.proofs.Common.{◌≡◌, map, ◌∙◌, ap, subst, List}
use Rattle.std.specs.List.{list_any}
use Rattle.std.proofs.lemmas.Result.{IfOk-weaker}
use Rattle.association_table.specs.declared.association.Association.{Association}
use Rattle.association_table.specs.declared.association.Listed.{Listed}
use Rattle.association_table.specs.Listing.{listed_at}
use Rattle.mme_tables.specs.declared.slots.OrderedSlot.{OrderedSlot}
use Rattle.mme_tables.specs.Items.{listed_item}
use Rattle.mme_tables.specs.Whereabouts.{slots_where}
use Rattle.mme_tables.specs.Whereabouts.{ConnectionTable, is_meant}
use Rattle.mme_tables.specs.KeptPlaces.{is_held, slot_rank, Gathers}
use Rattle.mme_tables.proofs.Meant.{listed_held}
use Rattle.mme_tables.proofs.connections.Connections.listed.Goals as goal

pub returns : goal.returns
returns c =
    let e = c.args.station in
    let items = c.args.items.now in
    let es = c.self.inside.associations.entries in
    let last = c.gather_owners.new.gathered.items in
    let own = c.as_slice.ensures.value ∙ c.in_ok-items.ensures in
    let there =
    c.as_slice-2.ensures.value ∙ c.in_ok-meant.ensures.value ∙ ap (λ n. listed_at n c.as_slice.result.now es) c.get.ensures.value
    ∙ ap (λ (xs : List Listed). listed_at e xs es) own in
    let so =
    subst (λ (ss : List OrderedSlot). Gathers (λ i. list_any (is_held i) (listed_at e (map listed_item items) es)) ss last) c.new-gathered.ensures.items
    (subst (λ (xs : List Association). Gathers (λ i. list_any (is_held i) xs) c.new-gathered.result.items last) there c.in_ok-gather_owners.ensures) in
    let held = listed_held e items c.self.inside.by_slot.items es c.self.inside.paged.items last c.self.invariant c.listed.ensures.order so in
    IfOk-weaker c.slots_of.result (λ s. s.items ≡ map slot_rank last)
    (λ s. s.items ≡ slots_where (is_meant e items) 0 c.args.self.now.whereabouts)
    (λ s is. is ∙ held ∙ ap (λ (t : ConnectionTable). slots_where (is_meant e items) 0 t.whereabouts) c.self.view_is) c.slots_of.ensures
