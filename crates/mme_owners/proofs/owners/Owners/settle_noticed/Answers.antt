use Rattle.std.proofs.Common.{◌≡◌, ◌<◌, length, sym, ◌∙◌, ap, subst}
use Rattle.mme_tables.specs.Whereabouts.{away_from, unless}
use Rattle.stranger_machine.specs.Table.{noted}
use Rattle.sorted_list.specs.Ordered.{Every}
use Rattle.mme_owners.specs.SteppedView.{SteppedView}
use Rattle.mme_owners.specs.Noticed.{ended_by, slots_noticed, OutlivesNotice}
use Rattle.mme_owners.specs.Subscribers.{AreOnward}
use Rattle.mme_owners.specs.Touched.{with_whereabouts, all_whereabouts, KeepsConnection}
use Rattle.mme_owners.specs.Owners.{OwnersView}
use Rattle.mme_owners.specs.Placed.{place_at}
use Rattle.mme_owners.proofs.Ended.{left_length, noticed_there, noticed_waits, outlives, stepped_below}
use Rattle.mme_owners.proofs.Touching.{slots_below}
use Rattle.mme_owners.proofs.owners.Owners.settle_noticed.Goals as goal

pub place_all-requires-clause-within : goal.place_all-requires-clause-within
place_all-requires-clause-within c =
    let xs = c.args.stepped.items in
    let notice = c.args.notice.now in
    let cs = c.self.inside.connections.whereabouts in
    let slots = c.requires.slots ∙ ap (λ (v : OwnersView). slots_noticed notice v.subscribers) (sym c.self.view_is) in
    let many : length c.vacate.new.connections.whereabouts ≡ length cs =
    ap length c.in_ok-vacate.ensures.whereabouts ∙ left_length (away_from (ended_by notice)) cs in
    subst (Every (λ (x : SteppedView). x.slot < length c.vacate.new.connections.whereabouts)) (sym c.as_slice-states.ensures.value)
    (subst (λ n. Every (λ (x : SteppedView). x.slot < n) xs) (sym many)
    (slots_below xs c.self.inside.records.subscribers cs c.self.invariant.phones (stepped_below notice xs c.self.inside.records.subscribers slots)))

pub place_all-requires-clause-places : goal.place_all-requires-clause-places
place_all-requires-clause-places c =
    let xs = c.args.stepped.items in
    let notice = c.args.notice.now in
    let kept = subst (λ (v : OwnersView). Every (OutlivesNotice notice v.subscribers) xs) (sym c.self.view_is) c.requires.kept in
    subst (Every (KeepsConnection c.vacate.new.connections.whereabouts)) (sym c.as_slice-states.ensures.value)
    (outlives notice xs c.self.inside.records.subscribers c.self.inside.connections.whereabouts c.vacate.new.connections.whereabouts
    c.self.invariant.phones c.in_ok-vacate.ensures.whereabouts kept)

pub settle_all-requires-clause-slots : goal.settle_all-requires-clause-slots
settle_all-requires-clause-slots c =
    let notice = c.args.notice.now in
    stepped_below notice c.args.stepped.items c.self.inside.records.subscribers
    (c.requires.slots ∙ ap (λ (v : OwnersView). slots_noticed notice v.subscribers) (sym c.self.view_is))

pub settle_all-requires-clause-onward : goal.settle_all-requires-clause-onward
settle_all-requires-clause-onward c =
    subst (λ (v : OwnersView). AreOnward v.subscribers c.args.stepped.items) (sym c.self.view_is) c.requires.onward

pub invariant_of-self-2 : goal.invariant_of-self-2
invariant_of-self-2 c =
    let xs = c.args.stepped.items in
    let notice = c.args.notice.now in
    let ks = c.self.inside.records.strangers in
    let ws = c.self.inside.records.subscribers in
    let vs = c.vacate.new.connections.whereabouts in
    let slots = c.requires.slots ∙ ap (λ (v : OwnersView). slots_noticed notice v.subscribers) (sym c.self.view_is) in
    record {
      phones =
          c.place_all.ensures.whereabouts ∙ ap (λ ys. with_whereabouts ys vs) c.as_slice-states.ensures.value
          ∙ noticed_there notice xs ws c.self.inside.connections.whereabouts vs c.requires.station c.self.invariant.phones slots
          c.in_ok-vacate.ensures.whereabouts
          ∙ ap all_whereabouts (sym (c.note.ensures.subscribers ∙ c.settle_all.ensures.subscribers));
      strangers = λ id.
          c.place_all.ensures.strangers id ∙ c.in_ok-vacate.ensures.strangers id
          ∙ ap (unless (ended_by notice)) (c.self.invariant.strangers id)
          ∙ noticed_waits notice id ks c.requires.station c.ids_rise.ensures
          ∙ ap (place_at id) (sym (c.note.ensures.strangers ∙ ap (noted notice) c.settle_all.ensures.strangers));
    }
