use Rattle.std.proofs.Common.{sym, ◌∙◌, ap, subst, arith, length}
use Rattle.mme_owners.specs.Records.{views}
use Rattle.mme_owners.specs.Subscribers.{IsOnwardAt, SubscriberTable, countdowns_at, with_solo}
use Rattle.mme_owners.proofs.Waking.{IsSubscriberTableOf, settled, views_length}
use Rattle.mme_owners.proofs.subscribers.Subscribers.settle.Goals as goal

pub settle_one-requires-clause-slot : goal.settle_one-requires-clause-slot
settle_one-requires-clause-slot c =
    let many = ap (λ (v : SubscriberTable). length v.subscribers) c.self.view_is in
    let same = views_length c.self.inside.clock c.self.inside.records.items in
    let lt = c.requires.slot in
    omega arith

pub settle_one-requires-clause-onward : goal.settle_one-requires-clause-onward
settle_one-requires-clause-onward c =
    subst (λ (v : SubscriberTable). IsOnwardAt v.subscribers c.args.stepped) (sym c.self.view_is) c.requires.onward

table : (c : goal.After-settle_one)
    → IsSubscriberTableOf c.self.inside.clock c.settle_one.new.records.items
    (with_solo c.args.stepped.slot c.args.stepped.solo (views c.self.inside.clock c.self.inside.records.items))
table c =
    settled c.self.inside.clock c.args.stepped.slot c.args.stepped.solo c.self.inside.records.items c.settle_one.new.records.items c.self.invariant c.requires.counting c.settle_one.ensures.records

pub invariant_of-self : goal.invariant_of-self
invariant_of-self c = (table c).table

pub returns-clause-subscribers : goal.returns-clause-subscribers
returns-clause-subscribers c =
    (table c).seen ∙ ap (λ (v : SubscriberTable). with_solo c.args.stepped.slot c.args.stepped.solo v.subscribers) c.self.view_is

pub returns-clause-before : goal.returns-clause-before
returns-clause-before c =
    ap (λ (v : SubscriberTable). countdowns_at c.args.stepped.slot v.subscribers) (sym c.self.view_is) ∙ c.settle_one.ensures.before
