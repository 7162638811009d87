use Rattle.std.proofs.Common.{◌+◌, drop, get_or, arith, refl, sym, ◌∙◌, ap, subst}
use Rattle.std.proofs.lemmas.List.{drop_all, drop_more}
use Rattle.sorted_list.specs.Ordered.{Rising}
use Rattle.sorted_list.specs.Laws.{rising-without}
use Rattle.association_table.specs.Table.{association_id, at_station, elsewhere}
use Rattle.association_table.proofs.Stations.{all_elsewhere, first_there}
use Rattle.association_table.proofs.table.Associations.close_station.Goals as goal

pub loop-association-init : goal.loop-association-init
loop-association-init c = record {
  left = sym (c.as_slice-closed.ensures.value ∙ c.in_ok-entries.ensures.value);
  others = refl;
  rising = c.entries_at.ensures.order;
  room = omega arith;
}

pub close_found-requires : goal.close_found-requires
close_found-requires c =
    let xs = c.as_slice-closed.result.now in
    let n = c.loop-association.association-index in
    (first_there c.args.station (get_or xs n _) (drop (n + 1) xs) c.loop-association.self.entries c.loop-association.invariant.rising
    (c.loop-association.invariant.left ∙ drop_more xs n _ c.loop-association-test.true)).there

pub loop-association-preserved : goal.loop-association-preserved
loop-association-preserved c =
    let e = c.args.station in
    let xs = c.as_slice-closed.result.now in
    let n = c.loop-association.association-index in
    let es = c.loop-association.self.entries in
    let kept = c.loop-association.invariant.room in
    let more = c.close_found.ensures.room in
    let first = first_there e (get_or xs n _) (drop (n + 1) xs) es c.loop-association.invariant.rising
    (c.loop-association.invariant.left ∙ drop_more xs n _ c.loop-association-test.true) in
    record {
      left = ap (at_station e) c.close_found.ensures.entries ∙ first.others;
      others = ap (elsewhere e) c.close_found.ensures.entries ∙ first.away ∙ c.loop-association.invariant.others;
      rising = subst (Rising association_id) (sym c.close_found.ensures.entries) (rising-without association_id _ es c.loop-association.invariant.rising);
      room = omega (arith, kept, more);
    }

pub returns-clause-entries : goal.returns-clause-entries
returns-clause-entries c =
    let xs = c.as_slice-closed.result.now in
    let n = c.loop-association.association-index in
    sym (all_elsewhere c.args.station c.loop-association.self.entries
    (c.loop-association.invariant.left ∙ drop_all n xs c.loop-association-test.false))
    ∙ c.loop-association.invariant.others
