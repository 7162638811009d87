use Rattle.std.proofs.Common.{ap, arith, length, subst}
use Rattle.mme_owners.specs.Given.{TakesOneVector}
use Rattle.mme_owners.specs.Records.{views}
use Rattle.mme_owners.specs.Subscribers.{SubscriberTable}
use Rattle.mme_owners.proofs.Waking.{views_length}
use Rattle.mme_owners.proofs.subscribers.Subscribers.give.Goals as goal

pub give_one-requires-clause-slot : goal.give_one-requires-clause-slot
give_one-requires-clause-slot c =
    let many = ap (λ (v : SubscriberTable). length v.subscribers) c.self.view_is in
    let same = views_length c.self.inside.clock c.self.inside.records.items in
    let lt = c.requires in
    omega arith

pub returns-clause-takes : goal.returns-clause-takes
returns-clause-takes c =
    subst (λ (v : SubscriberTable). TakesOneVector c.args.slot c.args.vector v.subscribers c.give_one.result (views c.self.inside.clock c.give_one.new.records.items))
    c.self.view_is c.give_one.ensures.takes
