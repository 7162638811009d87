use Rattle.std.proofs.Common.{sym, ◌∙◌, ap, subst, get_or, set}
use Rattle.emm_state.specs.Taking.{IsOnward}
use Rattle.mme_owners.specs.Records.{renewed}
use Rattle.mme_owners.proofs.Onward.{touched_slot}
use Rattle.mme_owners.proofs.Waking.{set_changed}
use Rattle.mme_owners.proofs.subscribers.settle_due.Goals as goal

pub renew-requires : goal.renew-requires
renew-requires c =
    let rs = c.args.records.now.items in
    let r = c.index_mut.result.now in
    let at = c.get-place.ensures.value ∙ c.slot-slot.ensures in
    let x = c.args.due in
    subst (IsOnward r.subscriber.solo) (sym c.into_draft.ensures)
    (c.requires.onward r.subscriber (touched_slot x.slot rs r c.requires.slot (c.index_mut.ensures.value ∙ ap (λ n. get_or rs n r) at)))

pub returns : goal.returns
returns c =
    let rs = c.args.records.now.items in
    let r = c.index_mut.result.now in
    let at = c.get-place.ensures.value ∙ c.slot-slot.ensures in
    let x = c.args.due in
    ap (λ n. set rs n c.renew.new.self) at
    ∙ set_changed (renewed c.args.clock x.solo) rs x.slot r c.renew.new.self c.requires.slot
    (c.index_mut.ensures.value ∙ ap (λ n. get_or rs n r) at)
    (c.renew.ensures.state ∙ ap (λ s. renewed c.args.clock s r) c.into_draft.ensures)
