use Rattle.std.proofs.Common.{◌≡◌, ap, ◌∙◌}
use Rattle.std.proofs.lemmas.List.Elements.{same_from_all_zip}
use Rattle.association_table.specs.Table.{Table}
use Rattle.association_table.proofs.Entries.{copied_kept, copied_entries, same_slot}
use Rattle.association_table.proofs.table.Associations.copy.Goals as goal

slots : (c : goal.After-result-2-1) → c.in_ok-clone.field-0.slots ≡ c.self.inside.slab.slots
slots c =
    same_from_all_zip _ c.self.inside.slab.slots c.in_ok-clone.field-0.slots c.in_ok-clone.ensures.cases.slots
    (same_slot _ (λ x y r. r))

pub invariant_of-result : goal.invariant_of-result
invariant_of-result c = (
  copied_kept c.self.inside.slab c.in_ok-clone.field-0 c.self.inside.by_id.items _ c.self.inside.by_station.items _ c.self.inside.by_number.items _ c.self.invariant.0 (slots c) c.in_ok-copy.ensures.items c.in_ok-copy-2.ensures.items c.in_ok-copy-3.ensures.items,
  c.in_ok-copy.ensures.steady ∙ c.self.invariant.1,
  c.in_ok-copy-2.ensures.steady ∙ c.self.invariant.2,
  c.in_ok-copy-3.ensures.steady ∙ c.self.invariant.3,
)

pub returns : goal.returns
returns c =
    copied_entries c.self.inside.slab c.in_ok-clone.field-0 c.self.inside.by_id.items c.in_ok-copy.field-0.items
    (slots c) c.in_ok-copy.ensures.items
    ∙ ap (λ (v : Table). v.entries) c.self.view_is
