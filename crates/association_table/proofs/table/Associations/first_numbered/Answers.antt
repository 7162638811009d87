use Rattle.std.proofs.Common.{◌≡◌, sym, ◌∙◌, ap, subst}
use Rattle.std.specs.Prelude.{option_map, Some, None}
use Rattle.sorted_list.specs.Ordered.{Rising, Every}
use Rattle.association_table.specs.Table.{Table, association_id}
use Rattle.association_table.specs.Gathering.{first_numbered}
use Rattle.association_table.specs.Kept.{IsId, IsIndexEntry, entries_of, number_group, index_rank, first_indexed}
use Rattle.association_table.proofs.Entries.{rising_entries, rising_index}
use Rattle.association_table.proofs.Stations.{index_small, number_answer, numbered_by_id, mapped_none}
use Rattle.association_table.proofs.table.Associations.first_numbered.Goals as goal

pub first_indexed-requires-clause-rising : goal.first_indexed-requires-clause-rising
first_indexed-requires-clause-rising c =
    let k = c.self.invariant.0 in
    let es = entries_of c.self.inside.slab c.self.inside.by_id.items in
    subst (Rising index_rank) (sym k.numbers)
    (rising_index number_group es (rising_entries c.self.inside.slab c.self.inside.by_id.items k.rising) k.ids)

pub first_indexed-requires-clause-small : goal.first_indexed-requires-clause-small
first_indexed-requires-clause-small c =
    subst (Every IsIndexEntry) (sym c.self.invariant.0.numbers)
    (index_small number_group (entries_of c.self.inside.slab c.self.inside.by_id.items) c.self.invariant.0.ids)

pub returns-in-Some-clause-value : goal.returns-in-Some-clause-value
returns-in-Some-clause-value c =
    let here = sym (number_answer c.self.inside.slab c.self.inside.by_id.items c.self.inside.by_station.items c.self.inside.by_number.items c.self.invariant.0 c.args.station c.args.enb_ue_id c.args.least c.group_at.ensures.small) ∙ ap (λ b. first_indexed b c.args.least c.self.inside.by_number.items) (sym c.group_at.ensures.group) ∙ sym c.first_indexed.ensures ∙ c.in-Some.is in
    let answer : option_map association_id (first_numbered c.args.station c.args.enb_ue_id c.args.least c.args.self.now.entries) ≡ Some c.in-Some.id =
    ap (λ (v : Table). option_map association_id (first_numbered c.args.station c.args.enb_ue_id c.args.least v.entries)) (sym c.self.view_is) ∙ here in
    c.find.ensures.value ∙ numbered_by_id c.args.station c.args.enb_ue_id c.args.least c.in-Some.id c.args.self.now.entries c.group_at.ensures.small (subst (λ (v : Table). Every IsId v.entries) c.self.view_is c.self.invariant.0.ids) c.find.ensures.order answer

pub returns-in-None-clause-value : goal.returns-in-None-clause-value
returns-in-None-clause-value c =
    let here = sym (number_answer c.self.inside.slab c.self.inside.by_id.items c.self.inside.by_station.items c.self.inside.by_number.items c.self.invariant.0 c.args.station c.args.enb_ue_id c.args.least c.group_at.ensures.small) ∙ ap (λ b. first_indexed b c.args.least c.self.inside.by_number.items) (sym c.group_at.ensures.group) ∙ sym c.first_indexed.ensures ∙ c.in-None.is in
    let answer : option_map association_id (first_numbered c.args.station c.args.enb_ue_id c.args.least c.args.self.now.entries) ≡ None =
    ap (λ (v : Table). option_map association_id (first_numbered c.args.station c.args.enb_ue_id c.args.least v.entries)) (sym c.self.view_is) ∙ here in
    sym (mapped_none (first_numbered c.args.station c.args.enb_ue_id c.args.least c.args.self.now.entries) answer)

pub returns-in-None-clause-order : goal.returns-in-None-clause-order
returns-in-None-clause-order c =
    subst (λ (v : Table). Rising association_id v.entries) c.self.view_is
    (rising_entries c.self.inside.slab c.self.inside.by_id.items c.self.invariant.0.rising)
