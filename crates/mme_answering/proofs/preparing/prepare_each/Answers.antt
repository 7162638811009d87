use Rattle.std.proofs.Common.{ℕ, ◌≡◌, ◌+◌, ◌<◌, ◌∷◌, ◌++◌, length, drop, arith, rules, sym, subst, ◌∙◌, ap}
use Rattle.std.proofs.lemmas.Grind.{common_steps}
use Rattle.std.proofs.lemmas.List.{drop_all, drop_more}
use Rattle.std.proofs.lemmas.Result.{err_from_is_err_and}
use Rattle.sorted_list.specs.Ordered.{Every}
use Rattle.mme_owners.specs.SubscriberLaws.{some_give}
use Rattle.mme_owners.specs.Subscribers.{IsOnwardAt, slots_stepped, SubscriberTable}
use Rattle.mme_types.specs.Events.{item_of}
use Rattle.mme_answering.specs.Settled.{item_sent, sent_at}
use Rattle.mme_answering.proofs.Parts.{all_done, every_push}
use Rattle.mme_answering.proofs.Sent.{SentBut, more_sent, sends_but, sends_same, some_sent}
use Rattle.mme_answering.proofs.Stepping.{sent_so_far}
use Rattle.mme_answering.proofs.preparing.prepare_each.Goals as goal

pub loop-slot-preserved : goal.loop-slot-preserved
loop-slot-preserved c =
    let l = c.loop-slot in
    let ws = c.args.subscribers.now.subscribers in
    let one = c.in_ok-one.one in
    let slots = c.args.called.now in
    let slot = c.slot-item.result in
    let left = drop (l.slot-index + 1) slots in
    let rest : drop l.slot-index slots ≡ slot ∷ left =
    drop_more slots l.slot-index slot c.loop-slot-test.true ∙ ap (λ (x : ℕ). x ∷ left) (sym c.slot-item.is) in
    let own : IsOnwardAt ws one = subst (λ (t : SubscriberTable). IsOnwardAt t.subscribers one) l.invariant.same c.in_ok-one.ensures.onward in
    record {
      same = search rules;
      below = (subst (Every (λ k. k < length ws)) rest l.invariant.below).1;
      slots = grind (arith, common_steps);
      stepped = grind (arith, common_steps);
      counting = grind (arith, common_steps);
      onward = subst (Every (IsOnwardAt ws)) (sym c.in_ok-push.ensures.items) (every_push (IsOnwardAt ws) l.stepped.items one l.invariant.onward own);
      sends = grind (arith, common_steps);
    }

pub returns-clause-prepares : goal.returns-clause-prepares
returns-clause-prepares c =
    let l = c.loop-slot in
    let now = l.invariant in
    let slots = c.args.called.now in
    all_done (item_of c.args.event.now c.args.stations.now) slots (drop l.slot-index slots) c.args.subscribers.now.subscribers c.args.outs.now l.outs l.stepped.items
    (drop_all l.slot-index slots (let t = c.loop-slot-test.false in omega (arith, t))) now.slots now.stepped now.counting now.onward now.sends

pub returns-in_err-one-clause-err : goal.returns-in_err-one-clause-err
returns-in_err-one-clause-err c =
    let l = c.loop-slot in
    let item = item_of c.args.event.now c.args.stations.now in
    let ws = c.args.subscribers.now.subscribers in
    let slots = c.args.called.now in
    let slot = c.slot-item.result in
    let left = drop (l.slot-index + 1) slots in
    let all = some_give (item_sent item) slots ws in
    let rest : drop l.slot-index slots ≡ slot ∷ left =
    drop_more slots l.slot-index slot c.loop-slot-test.true ∙ ap (λ (x : ℕ). x ∷ left) (sym c.slot-item.is) in
    let so_far = sent_so_far item slots (slots_stepped l.stepped.items) (drop l.slot-index slots) ws c.args.outs.now l.outs
    l.invariant.slots l.invariant.sends in
    let before = subst (λ xs. SentBut (some_give (item_sent item) xs ws) all c.args.outs.now l.outs) rest so_far in
    let own = ap (λ (s : SubscriberTable). sent_at slot item s.subscribers) l.invariant.same in
    let p = err_from_is_err_and c.from_residual.result c.from_residual.ensures.1 in
    rw p.1
    (some_sent (sent_at slot item ws) (some_give (item_sent item) left ws) all c.args.outs.now l.outs c.prepare_step.new.outs before
    (sends_same _ _ _ _ own c.in_err-one.ensures.err))

pub returns-in_err-push-clause-err : goal.returns-in_err-push-clause-err
returns-in_err-push-clause-err c =
    let l = c.loop-slot in
    let item = item_of c.args.event.now c.args.stations.now in
    let ws = c.args.subscribers.now.subscribers in
    let slots = c.args.called.now in
    let slot = c.slot-item.result in
    let left = drop (l.slot-index + 1) slots in
    let all = some_give (item_sent item) slots ws in
    let rest : drop l.slot-index slots ≡ slot ∷ left =
    drop_more slots l.slot-index slot c.loop-slot-test.true ∙ ap (λ (x : ℕ). x ∷ left) (sym c.slot-item.is) in
    let so_far = sent_so_far item slots (slots_stepped l.stepped.items) (drop l.slot-index slots) ws c.args.outs.now l.outs
    l.invariant.slots l.invariant.sends in
    let before = subst (λ xs. SentBut (some_give (item_sent item) xs ws) all c.args.outs.now l.outs) rest so_far in
    let own = ap (λ (s : SubscriberTable). sent_at slot item s.subscribers) l.invariant.same in
    let one = c.in_ok-one.ensures.sends ∙ ap (λ os. l.outs ++ os) own in
    let p = err_from_is_err_and c.from_residual-in_err-push.result c.from_residual-in_err-push.ensures.1 in
    rw p.1
    (sends_but (some_give (item_sent item) left ws) all c.args.outs.now c.prepare_step.new.outs
    (more_sent (sent_at slot item ws) (some_give (item_sent item) left ws) all c.args.outs.now l.outs c.prepare_step.new.outs
    before one))
