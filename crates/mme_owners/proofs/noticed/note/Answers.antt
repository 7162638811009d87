use Rattle.std.proofs.Common.{◌+◌, ◌∙◌, ◌≤◌, refl, sym, ap, subst, arith}
use Rattle.sorted_list.specs.Sorted.{lowest_from}
use Rattle.identity_slots.specs.Ids.{station_in}
use Rattle.stranger_machine.specs.Machine.{closes, noted_station}
use Rattle.stranger_machine.specs.Table.{known_id}
use Rattle.mme_owners.proofs.Noting.{noted_from, station_later, station_next, station_up, walk_begins, walk_ends, walk_high, walk_steps, walk_stops, walk_there}
use Rattle.mme_owners.proofs.noticed.note.Goals as goal
use Rattle.std.proofs.lemmas.Bool.Decides.{nat_tests}

pub note_one-requires-clause-there : goal.note_one-requires-clause-there
note_one-requires-clause-there c =
    let ks = c.loop-id.records.strangers in
    let n = c.loop-id.least in
    walk_there n c.in-Some.id ks (lowest_from known_id n ks) refl
    (sym c.first_from.ensures.value ∙ c.in-Some.is) c.first_from.ensures.order

pub loop-id-init : goal.loop-id-init
loop-id-init c =
    let station = c.noted_station-station.ensures in
    record {
      clock = refl;
      left = walk_begins c.first_id-least.result c.args.notice.now c.args.records.now.strangers c.requires (λ id is. c.first_id-least.ensures.least id (is ∙ sym station));
      from = subst (λ e. e ≤ station_in c.first_id-least.result) station (c.first_id-least.ensures.most c.first_id-least.result (omega arith));
      subscribers = refl;
      room = omega arith;
    }

pub loop-id-smaller : goal.loop-id-smaller
loop-id-smaller c =
    let ks = c.loop-id.records.strangers in
    let high =
    walk_high c.loop-id.least c.in-Some.id ks (lowest_from known_id c.loop-id.least ks) refl
    (sym c.first_from.ensures.value ∙ c.in-Some.is) in
    let is = c.from-least.ensures ∙ c.get.ensures in
    let small = c.get.type_inv in
    omega arith

pub loop-id-preserved : goal.loop-id-preserved
loop-id-preserved c =
    let ks = c.loop-id.records.strangers in
    let notice = c.args.notice.now in
    let n = c.loop-id.least in
    let id = c.in-Some.id in
    let first = sym c.first_from.ensures.value ∙ c.in-Some.is in
    let high = walk_high n id ks (lowest_from known_id n ks) refl first in
    let is = c.from-least.ensures ∙ c.get.ensures in
    let small = c.get.type_inv in
    let next = station_next (noted_station notice) id (station_up (noted_station notice) n id c.loop-id.invariant.from high) in
    record {
      clock = c.note_one.ensures.clock ∙ c.loop-id.invariant.clock;
      left =
          ap (λ i. noted_from (i + 1) notice c.note_one.new.records.strangers) is
          ∙ ap (noted_from (id + 1) notice) c.note_one.ensures.strangers
          ∙ walk_steps n id notice ks (closes id notice) refl first c.requires c.first_from.ensures.order
          ∙ c.loop-id.invariant.left;
      from = subst (λ i. noted_station notice ≤ station_in (i + 1)) (sym is) next;
      subscribers = c.note_one.ensures.subscribers ∙ c.loop-id.invariant.subscribers;
      room = let more = c.note_one.ensures.room in let least = c.loop-id.invariant.room in omega (arith, more, least);
    }

pub returns-then-station_in-station-clause-strangers : goal.returns-then-station_in-station-clause-strangers
returns-then-station_in-station-clause-strangers c =
    let ks = c.loop-id.records.strangers in
    let notice = c.args.notice.now in
    let n = c.loop-id.least in
    let id = c.in-Some.id in
    let first = sym c.first_from.ensures.value ∙ c.in-Some.is in
    let high = walk_high n id ks (lowest_from known_id n ks) refl first in
    let other = c.if-station_in-station.true in
    let own = c.station_in.ensures in
    let its = c.noted_station-station.ensures in
    let later = station_later (noted_station notice) n id c.loop-id.invariant.from high (grind (arith, nat_tests)) in
    sym (walk_stops n id notice ks (lowest_from known_id n ks) refl first c.requires later c.first_from.ensures.order)
    ∙ c.loop-id.invariant.left

pub returns-in_default-clause-strangers : goal.returns-in_default-clause-strangers
returns-in_default-clause-strangers c =
    let ks = c.loop-id.records.strangers in
    sym (walk_ends c.loop-id.least c.args.notice.now ks (lowest_from known_id c.loop-id.least ks) refl (sym c.first_from.ensures.value ∙ c.in_default.is)) ∙ c.loop-id.invariant.left
