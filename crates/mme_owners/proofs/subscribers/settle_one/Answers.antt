use Rattle.std.proofs.Common.{sym, ◌∙◌, ap, subst, get_or, set}
use Rattle.std.specs.Prelude.{Some, option_map}
use Rattle.emm_machine.specs.SubscriberView.{SubscriberView}
use Rattle.emm_machine.specs.Ticks.{countdowns}
use Rattle.emm_state.specs.Taking.{IsOnward}
use Rattle.mme_owners.specs.Records.{renewed, view_at}
use Rattle.mme_owners.proofs.Waking.{fresh_read, set_changed, view_slot}
use Rattle.mme_owners.proofs.subscribers.settle_one.Goals as goal

pub replace-kept-requires-clause-fresh : goal.replace-kept-requires-clause-fresh
replace-kept-requires-clause-fresh c =
    let rs = c.args.records.now.items in
    let at = c.get-place.ensures.value ∙ c.slot-slot.ensures in
    let r = c.index_mut.result.now in
    fresh_read c.args.clock c.args.stepped.slot rs r c.requires.table c.requires.slot (c.index_mut.ensures.value ∙ ap (λ n. get_or rs n r) at)

pub replace-kept-requires-clause-onward : goal.replace-kept-requires-clause-onward
replace-kept-requires-clause-onward c =
    let rs = c.args.records.now.items in
    let at = c.get-place.ensures.value ∙ c.slot-slot.ensures in
    let r = c.index_mut.result.now in
    let x = c.args.stepped in
    subst (IsOnward (view_at c.args.clock r).solo) (sym c.into_draft.ensures)
    (c.requires.onward (view_at c.args.clock r) (view_slot c.args.clock x.slot rs r c.requires.slot (c.index_mut.ensures.value ∙ ap (λ n. get_or rs n r) at)))

pub returns-clause-records : goal.returns-clause-records
returns-clause-records c =
    let rs = c.args.records.now.items in
    let r = c.index_mut.result.now in
    let at = c.get-place.ensures.value ∙ c.slot-slot.ensures in
    let x = c.args.stepped in
    ap (λ n. set rs n c.replace-kept.new.self) at
    ∙ set_changed (renewed c.args.clock x.solo) rs x.slot r c.replace-kept.new.self c.requires.slot
    (c.index_mut.ensures.value ∙ ap (λ n. get_or rs n r) at)
    (c.replace-kept.ensures.state ∙ ap (λ s. renewed c.args.clock s r) c.into_draft.ensures)

pub returns-clause-before : goal.returns-clause-before
returns-clause-before c =
    let rs = c.args.records.now.items in
    let r = c.index_mut.result.now in
    let at = c.get-place.ensures.value ∙ c.slot-slot.ensures in
    ap (option_map (λ (w : SubscriberView). countdowns w.solo)) (view_slot c.args.clock c.args.stepped.slot rs r c.requires.slot (c.index_mut.ensures.value ∙ ap (λ n. get_or rs n r) at))
    ∙ ap Some (sym c.replace-kept.ensures.before)
