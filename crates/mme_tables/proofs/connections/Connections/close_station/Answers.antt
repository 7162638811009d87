use Rattle.std.proofs.Common.{◌∙◌, map, ap}
use Rattle.association_table.specs.Table.{at_station, elsewhere}
use Rattle.mme_tables.specs.Whereabouts.{ConnectionTable, away_from, is_there, unless, waits_at}
use Rattle.mme_tables.proofs.Closed.{station_closed}
use Rattle.mme_tables.proofs.connections.Connections.close_station.Goals as goal

pub disconnect_owners-requires : goal.disconnect_owners-requires
disconnect_owners-requires c = c.self.invariant.few

pub invariant_of-self-2 : goal.invariant_of-self-2
invariant_of-self-2 c =
    let es = c.self.inside.associations.entries in
    (station_closed c.args.station c.self.inside.by_slot.items c.disconnect_owners.new.by_slot.items es
    c.close_station.new.self.entries c.as_slice.result.now c.self.inside.paged.items c.self.invariant c.close_station.ensures.order c.disconnect_owners.ensures
    (c.as_slice.ensures.value ∙ c.in_ok-closed.ensures.answer ∙ ap (λ n. at_station n es) c.get.ensures.value)
    (c.in_ok-closed.ensures.entries ∙ ap (λ n. elsewhere n es) c.get.ensures.value)).table

pub returns-clause-whereabouts : goal.returns-clause-whereabouts
returns-clause-whereabouts c =
    let es = c.self.inside.associations.entries in
    (station_closed c.args.station c.self.inside.by_slot.items c.disconnect_owners.new.by_slot.items es
    c.close_station.new.self.entries c.as_slice.result.now c.self.inside.paged.items c.self.invariant c.close_station.ensures.order c.disconnect_owners.ensures
    (c.as_slice.ensures.value ∙ c.in_ok-closed.ensures.answer ∙ ap (λ n. at_station n es) c.get.ensures.value)
    (c.in_ok-closed.ensures.entries ∙ ap (λ n. elsewhere n es) c.get.ensures.value)).away
    ∙ ap (λ (t : ConnectionTable). map (away_from (is_there c.args.station)) t.whereabouts) c.self.view_is

pub returns-clause-strangers : goal.returns-clause-strangers
returns-clause-strangers c = λ id.
    let es = c.self.inside.associations.entries in
    (station_closed c.args.station c.self.inside.by_slot.items c.disconnect_owners.new.by_slot.items es
    c.close_station.new.self.entries c.as_slice.result.now c.self.inside.paged.items c.self.invariant c.close_station.ensures.order c.disconnect_owners.ensures
    (c.as_slice.ensures.value ∙ c.in_ok-closed.ensures.answer ∙ ap (λ n. at_station n es) c.get.ensures.value)
    (c.in_ok-closed.ensures.entries ∙ ap (λ n. elsewhere n es) c.get.ensures.value)).waits id
    ∙ ap (λ (t : ConnectionTable). unless (is_there c.args.station) (waits_at id t.associations)) c.self.view_is
