use Rattle.std.proofs.Common.{ap, ◌∙◌, get_or, set, subst, sym}
use Rattle.mme_owners.specs.Given.{TakesOneVector}
use Rattle.mme_owners.specs.Records.{views, IsSubscriberTable}
use Rattle.mme_owners.proofs.Given.{takes_one}
use Rattle.mme_owners.proofs.Waking.{fresh_read}
use Rattle.mme_owners.proofs.subscribers.give_one.Goals as goal

pub give-requires : goal.give-requires
give-requires c =
    let rs = c.args.records.now.items in
    let r = c.index_mut.result.now in
    fresh_read c.args.clock c.args.slot rs r c.requires.table c.requires.slot
    (c.index_mut.ensures.value ∙ ap (λ n. get_or rs n r) c.get-place.ensures.value)

pub returns-clause-table : goal.returns-clause-table
returns-clause-table c =
    let rs = c.args.records.now.items in
    let r = c.index_mut.result.now in
    let done = c.give.ensures in
    let at = c.index_mut.ensures.value ∙ ap (λ n. get_or rs n r) c.get-place.ensures.value in
    subst (λ n. IsSubscriberTable c.args.clock (set rs n c.give.new.self)) (sym c.get-place.ensures.value)
    (takes_one c.give.result c.args.clock c.args.slot c.args.vector rs r c.give.new.self c.requires.table c.requires.slot at done.full done.fault
    done.given done.err).table

pub returns-clause-takes : goal.returns-clause-takes
returns-clause-takes c =
    let rs = c.args.records.now.items in
    let r = c.index_mut.result.now in
    let done = c.give.ensures in
    let at = c.index_mut.ensures.value ∙ ap (λ n. get_or rs n r) c.get-place.ensures.value in
    let clock = c.args.clock in
    subst (λ n. TakesOneVector c.args.slot c.args.vector (views clock rs) c.give.result (views clock (set rs n c.give.new.self)))
    (sym c.get-place.ensures.value)
    (takes_one c.give.result clock c.args.slot c.args.vector rs r c.give.new.self c.requires.table c.requires.slot at done.full done.fault
    done.given done.err).takes
