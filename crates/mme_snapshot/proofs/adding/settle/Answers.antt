use Rattle.std.proofs.Common.{List, ap, sym, subst, ◌∙◌}
use Rattle.emm_machine.specs.SubscriberView.{SubscriberView}
use Rattle.emm_machine.specs.Ticks.{countdowns}
use Rattle.emm_state.specs.Taking.{vectors_spent}
use Rattle.mme_owners.specs.Placed.{AreApart}
use Rattle.mme_owners.specs.Subscribers.{with_solo}
use Rattle.stranger_machine.specs.declared.table.Known.{Known}
use Rattle.mme_snapshot.proofs.Settling.{onward, settled}
use Rattle.mme_snapshot.proofs.adding.settle.Goals as goal

pub push-requires-clause-off : goal.push-requires-clause-off
unfolding countdowns
push-requires-clause-off c = ap countdowns c.requires.rest

pub settle-requires-clause-apart : goal.settle-requires-clause-apart
settle-requires-clause-apart c =
    let pushed = c.reserve.ensures.subscribers ∙ c.in_ok-push.ensures.ok in
    let is = settled c.args.owners.now.subscribers c.reserve.new.self.subscribers c.args.subscriber c.new.result c.args.slot
    c.args.draft.value.solo pushed c.requires.next c.new.ensures in
    subst (λ (ks : List Known). AreApart ks (with_solo c.new.result.slot c.new.result.solo c.reserve.new.self.subscribers)) (sym (c.reserve.ensures.strangers ∙ c.push.ensures.strangers))
    (subst (λ (ws : List SubscriberView). AreApart c.args.owners.now.strangers ws) (sym is) c.requires.apart)

pub settle-requires-clause-onward : goal.settle-requires-clause-onward
settle-requires-clause-onward c =
    onward c.args.owners.now.subscribers c.reserve.new.self.subscribers c.args.subscriber c.new.result c.args.slot
    c.args.draft.value.solo (c.reserve.ensures.subscribers ∙ c.in_ok-push.ensures.ok) c.requires.next c.new.ensures
    (ap vectors_spent c.requires.rest)

pub returns-clause-subscribers : goal.returns-clause-subscribers
returns-clause-subscribers c =
    c.settle.ensures.subscribers
    ∙ settled c.args.owners.now.subscribers c.reserve.new.self.subscribers c.args.subscriber c.new.result c.args.slot
    c.args.draft.value.solo (c.reserve.ensures.subscribers ∙ c.in_ok-push.ensures.ok) c.requires.next c.new.ensures
