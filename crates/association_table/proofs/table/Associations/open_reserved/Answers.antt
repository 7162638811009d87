use Rattle.std.proofs.Common.{◌<◌, ◌≡◌, arith, refl, ◌∙◌, ap}
use Rattle.std.specs.Prelude.{None}
use Rattle.sorted_list.specs.Ordered.{at, add}
use Rattle.association_table.specs.Table.{Table, found, opened}
use Rattle.association_table.specs.Kept.{place_id, station_group, number_group, index_entry, index_rank, entries_of}
use Rattle.association_table.proofs.Entries.{free_place, free_entry, rising_entries, open_entries, open_kept, same_kept}
use Rattle.association_table.proofs.table.Associations.open_reserved.Goals as goal

pub insert_reserved-requires-clause-free : goal.insert_reserved-requires-clause-free
insert_reserved-requires-clause-free c =
    let f : found c.args.association.id (entries_of c.self.inside.slab c.self.inside.by_id.items) ≡ None =
    ap (λ (v : Table). found c.args.association.id v.entries) c.self.view_is ∙ c.requires.free in
    ap (λ i. at place_id i c.self.inside.by_id.items) c.association_id-id.ensures
    ∙ free_place c.self.inside.slab c.args.association.id c.self.inside.by_id.items f

pub insert_reserved-requires-2-clause-free : goal.insert_reserved-requires-2-clause-free
insert_reserved-requires-2-clause-free c =
    let small = c.association_id-id.type_inv in let id : c.args.association.id < 4294967296 = omega (arith, c.association_id-id.ensures) in
    let f : found c.args.association.id (entries_of c.self.inside.slab c.self.inside.by_id.items) ≡ None =
    ap (λ (v : Table). found c.args.association.id v.entries) c.self.view_is ∙ c.requires.free in
    let k = c.self.invariant.0 in
    let es = entries_of c.self.inside.slab c.self.inside.by_id.items in
    ap (λ s. at index_rank (index_rank s) c.self.inside.by_station.items) c.station_entry-station_entry.ensures
    ∙ ap (at index_rank (index_rank (index_entry station_group c.args.association))) k.index
    ∙ free_entry station_group c.args.association es (rising_entries c.self.inside.slab c.self.inside.by_id.items k.rising) k.ids
    (id, c.number_entry-number_entry.ensures.small) f

pub insert_reserved-requires-3-clause-free : goal.insert_reserved-requires-3-clause-free
insert_reserved-requires-3-clause-free c =
    let small = c.association_id-id.type_inv in let id : c.args.association.id < 4294967296 = omega (arith, c.association_id-id.ensures) in
    let f : found c.args.association.id (entries_of c.self.inside.slab c.self.inside.by_id.items) ≡ None =
    ap (λ (v : Table). found c.args.association.id v.entries) c.self.view_is ∙ c.requires.free in
    let k = c.self.invariant.0 in
    let es = entries_of c.self.inside.slab c.self.inside.by_id.items in
    ap (λ s. at index_rank (index_rank s) c.self.inside.by_number.items) c.number_entry-number_entry.ensures.entry
    ∙ ap (at index_rank (index_rank (index_entry number_group c.args.association))) k.numbers
    ∙ free_entry number_group c.args.association es (rising_entries c.self.inside.slab c.self.inside.by_id.items k.rising) k.ids
    (id, c.number_entry-number_entry.ensures.small) f

pub invariant_of-self : goal.invariant_of-self
invariant_of-self c =
    let small = c.association_id-id.type_inv in let id : c.args.association.id < 4294967296 = omega (arith, c.association_id-id.ensures) in
    let f : found c.args.association.id (entries_of c.self.inside.slab c.self.inside.by_id.items) ≡ None =
    ap (λ (v : Table). found c.args.association.id v.entries) c.self.view_is ∙ c.requires.free in
    let a = c.args.association in
    let places = c.insert_reserved.ensures.items ∙ ap (λ i. add place_id (record { id = i; key = c.insert_reserved-key.result }) c.self.inside.by_id.items) c.association_id-id.ensures in
    let index = c.insert_reserved-2.ensures.items ∙ ap (λ s. add index_rank s c.self.inside.by_station.items) c.station_entry-station_entry.ensures in
    let numbers = c.insert_reserved-3.ensures.items ∙ ap (λ s. add index_rank s c.self.inside.by_number.items) c.number_entry-number_entry.ensures.entry in (
      same_kept c.insert_reserved-key.new.self c.insert_reserved-key.new.self _ _ _ _ _ _
          (open_kept c.self.inside.slab c.insert_reserved-key.new.self a c.insert_reserved-key.result c.self.inside.by_id.items c.self.inside.by_station.items c.self.inside.by_number.items c.self.invariant.0 (id, c.number_entry-number_entry.ensures.small) f c.insert_reserved-key.ensures.was_vacant c.insert_reserved-key.ensures.updates)
          refl places index numbers,
      c.insert_reserved.ensures.steady ∙ c.self.invariant.1,
      c.insert_reserved-2.ensures.steady ∙ c.self.invariant.2,
      c.insert_reserved-3.ensures.steady ∙ c.self.invariant.3,
    )

pub returns-clause-entries : goal.returns-clause-entries
returns-clause-entries c =
    ap (entries_of c.insert_reserved-key.new.self) c.insert_reserved.ensures.items
    ∙ ap (λ i. entries_of c.insert_reserved-key.new.self (add place_id (record { id = i; key = c.insert_reserved-key.result }) c.self.inside.by_id.items)) c.association_id-id.ensures
    ∙ open_entries c.self.inside.slab c.insert_reserved-key.new.self c.args.association c.insert_reserved-key.result c.self.inside.by_id.items c.insert_reserved-key.ensures.was_vacant c.self.invariant.0.held c.insert_reserved-key.ensures.updates
    ∙ ap (λ (v : Table). opened c.args.association v.entries) c.self.view_is
