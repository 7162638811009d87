use Rattle.std.proofs.Common.{◌<◌, ◌∙◌, sym, ap, arith, length, get_or}
use Rattle.std.specs.Prelude.{slice_get}
use Rattle.mme_owners.specs.Subscribers.{SubscriberTable}
use Rattle.mme_owners.proofs.Waking.{lent_seen}
use Rattle.mme_owners.proofs.subscribers.Subscribers.look.Goals as goal

pub returns : goal.returns
returns c =
    let rs = c.self.inside.records.items in
    let seen = ap (λ (v : SubscriberTable). slice_get v.subscribers c.args.slot) c.self.view_is in
    let ok = c.self.inside.records.ok in
    let place = c.get-place.ensures.value in
    let lt : c.args.slot < length rs = omega (arith, c.if-place-len.false, c.len.ensures) in
    let own = c.index-own.result.now in
    let at = c.index-own.ensures ∙ ap (λ n. get_or rs n own) place in
    sym (lent_seen c.self.inside.clock c.args.slot rs own c.self.invariant lt at) ∙ seen
