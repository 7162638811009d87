use Rattle.std.proofs.Common.{◌≡◌, sym, ◌∙◌, ap, subst}
use Rattle.std.specs.Prelude.{option_map, None}
use Rattle.sorted_list.specs.Ordered.{at, without}
use Rattle.sorted_list.specs.Laws.{without_absent}
use Rattle.mme_tables.specs.KeptStrangers.{IsTable, row_at, rows_of, place_id}
use Rattle.mme_tables.specs.StrangerRows.{row_id}
use Rattle.mme_tables.proofs.KeptStrangers.{at_rows, closed_rows, closed_table, there_some}
use Rattle.mme_tables.proofs.sleeping.Sleepers.close.Goals as goal

pub remove-requires : goal.remove-requires
remove-requires c =
    there_some c.self.inside.slab c.args.id c.in-Some.place c.self.inside.places.items c.self.invariant
    (sym c.take_place.ensures.place ∙ c.in-Some.is)

pub invariant_of-self : goal.invariant_of-self
invariant_of-self c = subst (IsTable c.remove.new.slab) (sym c.take_place.ensures.items)
    (closed_table c.self.inside.slab c.remove.new.slab c.args.id c.in-Some.place c.self.inside.places.items c.self.invariant (sym c.take_place.ensures.place ∙ c.in-Some.is) c.remove.ensures.updates c.remove.ensures.len)

pub returns-in-Some : goal.returns-in-Some
returns-in-Some c =
    ap (rows_of c.remove.new.slab) c.take_place.ensures.items
    ∙ closed_rows c.self.inside.slab c.remove.new.slab c.args.id c.in-Some.place c.self.inside.places.items c.self.invariant.keys
    (sym c.take_place.ensures.place ∙ c.in-Some.is) c.remove.ensures.updates
    ∙ ap (without row_id c.args.id) c.self.view_is

pub invariant_of-self-in_default : goal.invariant_of-self-in_default
invariant_of-self-in_default c =
    let none : at place_id c.args.id c.self.inside.places.items ≡ None = sym c.take_place.ensures.place ∙ c.in_default.is in
    subst (IsTable c.self.inside.slab)
    (sym (c.take_place.ensures.items ∙ without_absent place_id c.args.id c.self.inside.places.items none)) c.self.invariant

pub returns-in_default : goal.returns-in_default
returns-in_default c =
    let none : at place_id c.args.id c.self.inside.places.items ≡ None = sym c.take_place.ensures.place ∙ c.in_default.is in
    ap (rows_of c.self.inside.slab) (c.take_place.ensures.items ∙ without_absent place_id c.args.id c.self.inside.places.items none)
    ∙ sym (without_absent row_id c.args.id (rows_of c.self.inside.slab c.self.inside.places.items) (at_rows c.self.inside.slab c.args.id c.self.inside.places.items ∙ ap (option_map (row_at c.self.inside.slab)) none))
    ∙ ap (without row_id c.args.id) c.self.view_is
