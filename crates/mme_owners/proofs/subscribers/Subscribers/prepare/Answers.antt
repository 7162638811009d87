use Rattle.std.proofs.Common.{◌≡◌, ◌<◌, ◌∙◌, sym, ap, subst, arith, length, get_or, Some}
use Rattle.std.specs.Prelude.{slice_get}
use Rattle.std.proofs.lemmas.Option.{same_Some}
use Rattle.std.proofs.lemmas.Result.{IfOk-weaker}
use Rattle.mme_types.specs.Events.{item_of}
use Rattle.emm_state.specs.Taking.{IsOnward}
use Rattle.emm_machine.specs.SubscriberView.{SubscriberView}
use Rattle.mme_owners.specs.declared.record.Record.{Record}
use Rattle.mme_owners.specs.Records.{views}
use Rattle.mme_owners.specs.Subscribers.{SubscriberTable, step_at, subscriber_step}
use Rattle.mme_owners.proofs.Waking.{boxed_some, step_seen, view_slot, views_length, woken_at}
use Rattle.mme_owners.proofs.subscribers.Subscribers.prepare.Goals as goal

pub invariant_of-self : goal.invariant_of-self
invariant_of-self c =
    let rs = c.self.inside.records.items in
    let clock = c.self.inside.clock in
    let many = ap (λ (v : SubscriberTable). length v.subscribers) c.self.view_is in
    let place = c.get-place.ensures.value in
    let lt : c.get-place.result < length (views clock rs) = omega (arith, place, c.requires) in
    let new : Record = record { subscriber = c.wake.new.self.subscriber; touched = c.wake.new.self.touched } in
    let is = ap (λ (q : Record). record { subscriber = q.subscriber; touched = q.touched }) c.wake.ensures in
    (woken_at clock c.get-place.result rs c.index_mut-own.result.now new c.self.invariant lt c.index_mut-own.ensures.value is).table

pub returns-clause-step : goal.returns-clause-step
returns-clause-step c =
    let rs = c.self.inside.records.items in
    let clock = c.self.inside.clock in
    let r = c.index_mut-own.result.now in
    let item = item_of c.args.event.now c.args.world.now in
    let many = ap (λ (v : SubscriberTable). length v.subscribers) c.self.view_is in
    let same = views_length clock rs in
    let lt : c.args.slot < length rs = omega (arith, c.requires) in
    let at = c.index_mut-own.ensures.value ∙ ap (λ n. get_or rs n r) c.get-place.ensures.value in
    let step = ap (λ (v : SubscriberTable). step_at c.args.slot item v.subscribers) (sym c.self.view_is)
    ∙ step_seen clock c.args.slot rs r item lt at
    ∙ ap (λ (q : Record). Some (subscriber_step q.subscriber item)) (sym c.wake.ensures) in
    boxed_some c.prepare.result (subscriber_step c.wake.new.self.subscriber item)
    (step_at c.args.slot item c.args.self.now.subscribers) c.prepare.ensures.step step

pub returns-clause-onward : goal.returns-clause-onward
returns-clause-onward c =
    let rs = c.self.inside.records.items in
    let clock = c.self.inside.clock in
    let r = c.index_mut-own.result.now in
    let many = ap (λ (v : SubscriberTable). length v.subscribers) c.self.view_is in
    let same = views_length clock rs in
    let lt : c.args.slot < length rs = omega (arith, c.requires) in
    let at = c.index_mut-own.ensures.value ∙ ap (λ n. get_or rs n r) c.get-place.ensures.value in
    let own : slice_get c.args.self.now.subscribers c.args.slot ≡ Some c.wake.new.self.subscriber =
    ap (λ (v : SubscriberTable). slice_get v.subscribers c.args.slot) (sym c.self.view_is)
    ∙ view_slot clock c.args.slot rs r lt at
    ∙ ap (λ (q : Record). Some q.subscriber) (sym c.wake.ensures) in
    IfOk-weaker c.prepare.result _ _
    (λ d further w there. subst (λ (v : SubscriberView). IsOnward v.solo d.value.solo) (same_Some c.wake.new.self.subscriber w (sym own ∙ there)) further)
    c.prepare.ensures.onward

pub returns-clause-same : goal.returns-clause-same
returns-clause-same c =
    let rs = c.self.inside.records.items in
    let clock = c.self.inside.clock in
    let many = ap (λ (v : SubscriberTable). length v.subscribers) c.self.view_is in
    let place = c.get-place.ensures.value in
    let lt : c.get-place.result < length (views clock rs) = omega (arith, place, c.requires) in
    let new : Record = record { subscriber = c.wake.new.self.subscriber; touched = c.wake.new.self.touched } in
    let is = ap (λ (q : Record). record { subscriber = q.subscriber; touched = q.touched }) c.wake.ensures in
    ap (λ ws. record { clock = clock; subscribers = ws })
    (woken_at clock c.get-place.result rs c.index_mut-own.result.now new c.self.invariant lt c.index_mut-own.ensures.value is).seen
    ∙ c.self.view_is
