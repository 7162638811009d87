use Rattle.std.proofs.Common.{◌<◌, length, take, sym, ◌∙◌, ap, add-one}
use Rattle.std.specs.Prelude.{filter}
use Rattle.association_table.specs.Listing.{is_listed}
use Rattle.sorted_list.specs.Laws.{get_or_self}
use Rattle.association_table.proofs.Matched.{none_listed, listed_next}
use Rattle.association_table.proofs.gathering.gathered.Goals as goal

pub loop-place-init : goal.loop-place-init
loop-place-init c = c.new-gathered.ensures.items ∙ sym (none_listed c.args.station c.args.associations.now.entries)

pub loop-place-preserved : goal.loop-place-preserved
loop-place-preserved c =
    let lt : c.loop-place.place < length c.args.items.now = c.loop-place-test.true in
    listed_next c.args.station c.loop-place.place _ c.args.items.now c.args.associations.now.entries c.loop-place.gathered.items c.gather_item.new.gathered.items lt (get_or_self c.loop-place.place _ c.args.items.now lt) c.loop-place.invariant c.in_ok-gather_item.ensures
    ∙ ap (λ i. filter (is_listed c.args.station (take i c.args.items.now)) c.args.associations.now.entries)
    (sym (add-one c.loop-place.place))
