use Rattle.std.proofs.Common.{◌≡◌, arith, sym, ◌∙◌, ap, subst, refl}
use Rattle.std.specs.Prelude.{IsSome, Some, is_some}
use Rattle.slab.specs.Slab.{get}
use Rattle.sorted_list.specs.Ordered.{at, without}
use Rattle.sorted_list.specs.Indexed.{every_at}
use Rattle.association_table.specs.Table.{Table, found, closed}
use Rattle.association_table.specs.Kept.{place_id, station_group, number_group, index_entry, index_rank, entries_of}
use Rattle.association_table.proofs.Entries.{on_some, taken_place, close_entries, close_kept, same_kept, entry_there, closed_gone}
use Rattle.association_table.proofs.table.Associations.close_found.Goals as goal

pub take_entry-requires : goal.take_entry-requires
take_entry-requires c =
    let es = entries_of c.self.inside.slab c.self.inside.by_id.items in
    let f : found c.args.association.id es ≡ Some c.args.association =
    ap (λ (v : Table). found c.args.association.id v.entries) c.self.view_is ∙ c.requires in
    subst (λ s. IsSome (at index_rank (index_rank s) c.self.inside.by_station.items)) (sym c.station_entry.ensures)
    (subst IsSome (sym (ap (at index_rank (index_rank (index_entry station_group c.args.association))) c.self.invariant.0.index ∙ entry_there station_group c.args.association.id c.args.association es c.self.invariant.0.ids f)) refl)

pub take_entry-requires-2 : goal.take_entry-requires-2
take_entry-requires-2 c =
    let es = entries_of c.self.inside.slab c.self.inside.by_id.items in
    let f : found c.args.association.id es ≡ Some c.args.association =
    ap (λ (v : Table). found c.args.association.id v.entries) c.self.view_is ∙ c.requires in
    subst (λ s. IsSome (at index_rank (index_rank s) c.self.inside.by_number.items)) (sym c.number_entry.ensures.entry)
    (subst IsSome (sym (ap (at index_rank (index_rank (index_entry number_group c.args.association))) c.self.invariant.0.numbers ∙ entry_there number_group c.args.association.id c.args.association es c.self.invariant.0.ids f)) refl)

pub invariant_of-self : goal.invariant_of-self
invariant_of-self c =
    let a = c.args.association in
    let f : found a.id (entries_of c.self.inside.slab c.self.inside.by_id.items) ≡ Some a =
    ap (λ (v : Table). found a.id v.entries) c.self.view_is ∙ c.requires in
    let h = sym c.take_place.ensures.place ∙ c.unwrap-place.ensures in
    let index =
    c.take_entry.ensures.items ∙ ap (λ s. without index_rank (index_rank s) c.self.inside.by_station.items) c.station_entry.ensures in
    let numbers = c.take_entry-2.ensures.items ∙ ap (λ s. without index_rank (index_rank s) c.self.inside.by_number.items) c.number_entry.ensures.entry in (
      same_kept c.try_remove.new.self c.try_remove.new.self _ _ _ _ _ _
          (close_kept c.self.inside.slab c.try_remove.new.self a.id a c.unwrap-place.result c.self.inside.by_id.items c.self.inside.by_station.items c.self.inside.by_number.items c.self.invariant.0 f h c.try_remove.ensures.updates)
          refl c.take_place.ensures.items index numbers,
      c.take_place.ensures.steady ∙ c.self.invariant.1,
      c.take_entry.ensures.steady ∙ c.self.invariant.2,
      c.take_entry-2.ensures.steady ∙ c.self.invariant.3,
    )

pub returns-clause-entries : goal.returns-clause-entries
returns-clause-entries c =
    let h = sym c.take_place.ensures.place ∙ c.unwrap-place.ensures in
    ap (entries_of c.try_remove.new.self) c.take_place.ensures.items
    ∙ close_entries c.self.inside.slab c.try_remove.new.self c.args.association.id c.unwrap-place.result c.self.inside.by_id.items c.self.invariant.0.keys h c.try_remove.ensures.updates
    ∙ ap (λ (v : Table). closed c.args.association.id v.entries) c.self.view_is

pub unwrap-place-requires : goal.unwrap-place-requires
unwrap-place-requires c =
    let f : found c.args.association.id (entries_of c.self.inside.slab c.self.inside.by_id.items) ≡ Some c.args.association =
    ap (λ (v : Table). found c.args.association.id v.entries) c.self.view_is ∙ c.requires in
    let t = taken_place c.self.inside.slab c.args.association.id c.args.association c.self.inside.by_id.items f in
    subst IsSome (sym (c.take_place.ensures.place ∙ t.1)) refl

pub returns-clause-gone : goal.returns-clause-gone
returns-clause-gone c =
    let h = sym c.take_place.ensures.place ∙ c.unwrap-place.ensures in
    let e = ap (entries_of c.try_remove.new.self) c.take_place.ensures.items
    ∙ close_entries c.self.inside.slab c.try_remove.new.self c.args.association.id c.unwrap-place.result c.self.inside.by_id.items c.self.invariant.0.keys h c.try_remove.ensures.updates in
    ap (found c.args.association.id) e
    ∙ closed_gone c.self.inside.slab c.args.association.id c.self.inside.by_id.items c.self.invariant.0.rising

pub returns-clause-room : goal.returns-clause-room
returns-clause-room c =
    let f : found c.args.association.id (entries_of c.self.inside.slab c.self.inside.by_id.items) ≡ Some c.args.association =
    ap (λ (v : Table). found c.args.association.id v.entries) c.self.view_is ∙ c.requires in
    let h = sym c.take_place.ensures.place ∙ c.unwrap-place.ensures in
    let there = every_at (λ p. IsSome (get c.self.inside.slab p.key)) place_id c.args.association.id c.unwrap-place.result c.self.inside.by_id.items h c.self.invariant.0.held in
    let some : IsSome c.try_remove.result = subst IsSome (sym c.try_remove.ensures.value) there in
    let len = on_some c.try_remove.result some c.try_remove.ensures.len in
    let room = on_some c.try_remove.result some c.try_remove.ensures.room in
    let place = c.take_place.ensures.room c.self.invariant.1 (ap is_some c.unwrap-place.ensures) in
    let entry = c.take_entry.ensures.room c.self.invariant.2 in
    let chair = c.take_entry-2.ensures.room c.self.invariant.3 in
    let capacity = c.try_remove.ensures.capacity in
    let was = ap (λ (v : Table). v.room) c.self.view_is in
    omega (arith, was, place, entry, chair, len, room, capacity)
