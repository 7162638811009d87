use Rattle.std.proofs.Common.{◌≡◌, refl, sym, ◌∙◌, ap, subst}
use Rattle.std.specs.Prelude.{None}
use Rattle.sorted_list.specs.Ordered.{at, put}
use Rattle.mme_tables.specs.KeptStrangers.{IsTable, rows_of, place_id}
use Rattle.mme_tables.specs.StrangerRows.{Row, row_id}
use Rattle.mme_tables.proofs.KeptStrangers.{added_rows, added_table, put_rows, put_table, same_room, table_room, there_some}
use Rattle.mme_tables.proofs.sleeping.Sleepers.put.Goals as goal

pub replace-requires : goal.replace-requires
replace-requires c =
    there_some c.self.inside.slab c.args.id c.in-Some.place c.self.inside.places.items c.self.invariant
    (sym c.find_place.ensures ∙ c.in-Some.is)

pub invariant_of-self : goal.invariant_of-self
invariant_of-self c = put_table c.self.inside.slab c.replace.new.slab c.in-Some.place.key c.args.sleeper c.self.inside.places.items c.self.invariant c.replace.ensures.updates c.replace.ensures.len

pub returns-in-Some-clause-ok : goal.returns-in-Some-clause-ok
returns-in-Some-clause-ok c =
    let k : Row = record { id = c.args.id; sleeper = c.args.sleeper } in
    put_rows c.self.inside.slab c.replace.new.slab c.args.id c.args.sleeper c.in-Some.place c.self.inside.places.items c.self.invariant.rising c.self.invariant.keys (sym c.find_place.ensures ∙ c.in-Some.is) c.replace.ensures.updates
    ∙ ap (put row_id k) c.self.view_is

pub invariant_of-self-in_err-reserve : goal.invariant_of-self-in_err-reserve
invariant_of-self-in_err-reserve c = table_room c.self.inside.slab c.reserve.new.self c.self.inside.places.items c.self.inside.places.items c.self.invariant c.reserve.ensures.rest_kept refl

pub invariant_of-self-in_err-reserve-2 : goal.invariant_of-self-in_err-reserve-2
invariant_of-self-in_err-reserve-2 c = table_room c.self.inside.slab c.reserve.new.self c.self.inside.places.items c.reserve-2.new.self.items c.self.invariant c.reserve.ensures.rest_kept c.reserve-2.ensures.items

pub invariant_of-self-2 : goal.invariant_of-self-2
invariant_of-self-2 c =
    let table = table_room c.self.inside.slab c.reserve.new.self c.self.inside.places.items c.reserve-2.new.self.items c.self.invariant c.reserve.ensures.rest_kept c.reserve-2.ensures.items in
    let free : at place_id c.args.id c.reserve-2.new.self.items ≡ None =
    ap (at place_id c.args.id) c.reserve-2.ensures.items ∙ sym c.find_place.ensures ∙ c.in_default.is in
    subst (IsTable c.insert_reserved-key.new.self) (sym c.insert_reserved.ensures.items)
    (added_table c.reserve.new.self c.insert_reserved-key.new.self c.args.id c.insert_reserved-key.result c.args.sleeper c.reserve-2.new.self.items table free c.insert_reserved-key.ensures.was_vacant c.insert_reserved-key.ensures.updates c.insert_reserved-key.ensures.len c.id_is_small.ensures)

pub returns-clause-ok : goal.returns-clause-ok
returns-clause-ok c =
    let k : Row = record { id = c.args.id; sleeper = c.args.sleeper } in
    let table = table_room c.self.inside.slab c.reserve.new.self c.self.inside.places.items c.reserve-2.new.self.items c.self.invariant c.reserve.ensures.rest_kept c.reserve-2.ensures.items in
    let free : at place_id c.args.id c.reserve-2.new.self.items ≡ None =
    ap (at place_id c.args.id) c.reserve-2.ensures.items ∙ sym c.find_place.ensures ∙ c.in_default.is in
    ap (rows_of c.insert_reserved-key.new.self) c.insert_reserved.ensures.items
    ∙ added_rows c.reserve.new.self c.insert_reserved-key.new.self c.args.id c.insert_reserved-key.result c.args.sleeper c.reserve-2.new.self.items table free c.insert_reserved-key.ensures.was_vacant c.insert_reserved-key.ensures.updates
    ∙ ap (put row_id k) (same_room c.self.inside.slab c.reserve.new.self c.self.inside.places.items c.reserve-2.new.self.items c.reserve.ensures.rest_kept c.reserve-2.ensures.items ∙ c.self.view_is)
