use Rattle.std.proofs.Common.{◌∙◌, sym, ap, subst}
use Rattle.mme_owners.specs.Subscribers.{AreOnward, SubscriberTable, due_slots, tick_settled}
use Rattle.mme_owners.proofs.Onward.{onward_touched}
use Rattle.mme_owners.proofs.Waking.{all_ticked, slots_below}
use Rattle.mme_owners.proofs.subscribers.Subscribers.tick.Goals as goal

pub settle_all-requires-clause-slots : goal.settle_all-requires-clause-slots
settle_all-requires-clause-slots c =
    slots_below c.self.inside.clock c.args.stepped.items c.self.inside.records.items
    (c.requires.due ∙ ap (λ (v : SubscriberTable). due_slots v.subscribers) (sym c.self.view_is))

pub settle_all-requires-clause-onward : goal.settle_all-requires-clause-onward
settle_all-requires-clause-onward c =
    onward_touched c.self.inside.clock c.self.inside.records.items c.args.stepped.items c.self.invariant.fresh
    (subst (λ (v : SubscriberTable). AreOnward v.subscribers c.args.stepped.items) (sym c.self.view_is) c.requires.onward)

pub invariant_of-self : goal.invariant_of-self
invariant_of-self c =
    let rs = c.self.inside.records.items in
    let due = c.requires.due ∙ ap (λ (v : SubscriberTable). due_slots v.subscribers) (sym c.self.view_is) in
    (all_ticked c.self.inside.clock c.args.stepped.items rs c.settle_all.new.records.items c.self.invariant due c.requires.counting c.settle_all.ensures).table

pub returns-clause-subscribers : goal.returns-clause-subscribers
returns-clause-subscribers c =
    let rs = c.self.inside.records.items in
    let due = c.requires.due ∙ ap (λ (v : SubscriberTable). due_slots v.subscribers) (sym c.self.view_is) in
    (all_ticked c.self.inside.clock c.args.stepped.items rs c.settle_all.new.records.items c.self.invariant due c.requires.counting c.settle_all.ensures).seen
    ∙ ap (λ (v : SubscriberTable). tick_settled c.args.stepped.items v.subscribers) c.self.view_is
