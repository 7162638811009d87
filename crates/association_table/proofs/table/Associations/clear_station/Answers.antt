use Rattle.std.proofs.Common.{◌<◌, length, arith, sym, ◌∙◌, ap, subst}
use Rattle.association_table.specs.Table.{elsewhere}
use Rattle.association_table.specs.Kept.{station_group}
use Rattle.association_table.proofs.Stations.{first_found, elsewhere_closed, none_elsewhere, length_closed}
use Rattle.association_table.proofs.table.Associations.clear_station.Goals as goal

pub close_found-requires : goal.close_found-requires
close_found-requires c =
    first_found station_group c.args.station 0 c.in-Some.association c.loop-association.self.entries c.first_at.ensures.order
    (sym c.first_at.ensures.value ∙ c.in-Some.is)

pub loop-association-smaller : goal.loop-association-smaller
loop-association-smaller c =
    let there =
    first_found station_group c.args.station 0 c.in-Some.association c.loop-association.self.entries c.first_at.ensures.order
    (sym c.first_at.ensures.value ∙ c.in-Some.is) in
    subst (λ es. length es < length c.loop-association.self.entries) (sym c.close_found.ensures.entries)
    (length_closed c.in-Some.association.id c.in-Some.association c.loop-association.self.entries there)

pub loop-association-preserved : goal.loop-association-preserved
loop-association-preserved c =
    let kept = c.loop-association.invariant.room in
    let more = c.close_found.ensures.room in
    record {
      others = ap (elsewhere c.args.station) c.close_found.ensures.entries
          ∙ elsewhere_closed c.args.station 0 c.in-Some.association c.loop-association.self.entries c.first_at.ensures.order (sym c.first_at.ensures.value ∙ c.in-Some.is) ∙ c.loop-association.invariant.others;
      room = omega arith;
    }

pub returns-clause-entries : goal.returns-clause-entries
returns-clause-entries c =
    sym (none_elsewhere c.args.station c.loop-association.self.entries (sym c.first_at.ensures.value ∙ c.in_default.is))
    ∙ c.loop-association.invariant.others
