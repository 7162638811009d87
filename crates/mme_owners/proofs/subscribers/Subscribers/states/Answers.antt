use Rattle.std.proofs.Common.{◌<◌, ◌∙◌, sym, ap, arith, length, get_or, Some}
use Rattle.std.specs.Prelude.{slice_get, option_map}
use Rattle.emm_machine.specs.SubscriberView.{SubscriberView}
use Rattle.emm_machine.specs.Words.{states_of}
use Rattle.mme_owners.specs.Subscribers.{SubscriberTable}
use Rattle.mme_owners.proofs.Waking.{states_seen}
use Rattle.mme_owners.proofs.subscribers.Subscribers.states.Goals as goal

pub returns : goal.returns
returns c =
    let rs = c.self.inside.records.items in
    let seen = ap (λ (v : SubscriberTable). option_map (λ (w : SubscriberView). states_of w.solo) (slice_get v.subscribers c.args.slot)) c.self.view_is in
    let ok = c.self.inside.records.ok in
    let place = c.get-place.ensures.value in
    let lt : c.args.slot < length rs = omega (arith, c.if-place-len.false, c.len.ensures) in
    let at = c.index.ensures ∙ ap (λ n. get_or rs n c.index.result.now) place in
    ap Some c.states.ensures ∙ sym (states_seen c.self.inside.clock c.args.slot rs c.index.result.now c.self.invariant lt at) ∙ seen
