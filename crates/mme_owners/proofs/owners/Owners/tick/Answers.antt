use Rattle.std.proofs.Common.{◌<◌, length, sym, ◌∙◌, ap, subst}
use Rattle.sorted_list.specs.Ordered.{Every}
use Rattle.mme_owners.specs.SteppedView.{SteppedView}
use Rattle.mme_owners.specs.Subscribers.{AreOnward, due_slots}
use Rattle.mme_owners.specs.Touched.{all_whereabouts, with_whereabouts, KeepsConnection, KeepsPlace}
use Rattle.mme_tables.specs.Waiting.{due_ids}
use Rattle.mme_owners.specs.Owners.{OwnersView}
use Rattle.mme_owners.specs.Placed.{place_at, still_there}
use Rattle.mme_owners.proofs.Places.{still_noted}
use Rattle.mme_owners.proofs.Touching.{keeps_there, places_below, ticked_there}
use Rattle.mme_owners.proofs.owners.Owners.tick.Goals as goal

pub place_all-requires-clause-within : goal.place_all-requires-clause-within
place_all-requires-clause-within c =
    let due = c.requires.slots ∙ ap (λ (v : OwnersView). due_slots v.subscribers) (sym c.self.view_is) in
    subst (Every (λ (x : SteppedView). x.slot < length c.self.inside.connections.whereabouts)) (sym c.as_slice.ensures.value)
    (places_below c.args.stepped.items c.self.inside.records.subscribers c.self.inside.connections.whereabouts c.self.invariant.phones due)

pub place_all-requires-clause-places : goal.place_all-requires-clause-places
place_all-requires-clause-places c =
    let xs = c.args.stepped.items in
    let kept = subst (λ (v : OwnersView). Every (KeepsPlace v.subscribers) xs) (sym c.self.view_is) c.requires.kept in
    subst (Every (KeepsConnection c.self.inside.connections.whereabouts)) (sym c.as_slice.ensures.value)
    (keeps_there xs c.self.inside.records.subscribers c.self.inside.connections.whereabouts c.self.invariant.phones kept)

pub tick-requires-clause-onward : goal.tick-requires-clause-onward
tick-requires-clause-onward c =
    subst (λ (v : OwnersView). AreOnward v.subscribers c.args.stepped.items) (sym c.self.view_is) c.requires.onward

pub invariant_of-self : goal.invariant_of-self
invariant_of-self c =
    let xs = c.args.stepped.items in
    let ks = c.self.inside.records.strangers in
    let ws = c.self.inside.records.subscribers in
    let cs = c.self.inside.connections.whereabouts in
    let ended = c.as_slice-ended.ensures.value ∙ c.requires.strangers ∙ ap (λ (v : OwnersView). due_ids v.strangers) (sym c.self.view_is) in
    record {
      phones =
          c.leave.ensures.whereabouts ∙ c.place_all.ensures.whereabouts ∙ ap (λ ys. with_whereabouts ys cs) c.as_slice.ensures.value
          ∙ ap (with_whereabouts xs) c.self.invariant.phones ∙ sym (ticked_there xs ws)
          ∙ ap all_whereabouts (sym c.tick.ensures.subscribers);
      strangers = λ id.
          let was = c.place_all.ensures.strangers id ∙ c.self.invariant.strangers id in
          c.leave.ensures.strangers id
          ∙ ap (λ o. still_there c.as_slice-ended.result.now c.tick.new.self.strangers id o) was
          ∙ ap (λ ids. still_there ids c.tick.new.self.strangers id (place_at id ks)) ended
          ∙ ap (λ ls. still_there (due_ids ks) ls id (place_at id ks)) c.tick.ensures.strangers ∙ still_noted id ks c.ids_rise.ensures
          ∙ ap (place_at id) (sym c.tick.ensures.strangers);
    }
