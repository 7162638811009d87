use Rattle.std.proofs.Common.{◌<◌, ◌++◌, ◌∷◌, [], ◌∙◌, ap, arith, length, List}
use Rattle.identity_slots.specs.Ids.{slots}
use Rattle.mme_owners.specs.declared.record.Record.{Record}
use Rattle.mme_owners.specs.Records.{views}
use Rattle.mme_owners.specs.Subscribers.{SubscriberTable}
use Rattle.mme_owners.proofs.Waking.{IsSubscriberTableOf, pushed, views_length}
use Rattle.mme_owners.proofs.subscribers.Subscribers.push.Goals as goal

table : (c : goal.After-push_reserved)
    → IsSubscriberTableOf c.self.inside.clock c.push_reserved.new.self.items
    (views c.self.inside.clock c.self.inside.records.items ++ c.args.subscriber ∷ [])
table c =
    let rs = c.self.inside.records.items in
    let clock = c.self.inside.clock in
    let many = ap (λ (v : SubscriberTable). length v.subscribers) c.self.view_is in
    let same = views_length clock rs in
    let lt = c.requires.slots in
    let room : length rs < slots = omega arith in
    pushed clock c.args.subscriber rs c.push_reserved.new.self.items c.self.invariant room c.requires.off
    (c.push_reserved.ensures.items ∙ ap (λ (ys : List Record). ys ++ record { subscriber = c.args.subscriber; touched = clock } ∷ []) c.in_ok-reserve.ensures.items)

pub invariant_of-self-2 : goal.invariant_of-self-2
invariant_of-self-2 c = (table c).table

pub returns-clause-ok : goal.returns-clause-ok
returns-clause-ok c = (table c).seen ∙ ap (λ (v : SubscriberTable). v.subscribers ++ c.args.subscriber ∷ []) c.self.view_is
