use Rattle.std.proofs.Common.{◌<◌, ◌++◌, length, sym, ◌∙◌, ap, refl, subst}
use Rattle.std.proofs.lemmas.List.{append_assoc}
use Rattle.std.proofs.lemmas.Result.{err_from_is_err_and}
use Rattle.mme_types.specs.Events.{Tick}
use Rattle.sorted_list.specs.Ordered.{Every}
use Rattle.stranger_machine.specs.declared.turn.Notice.TheVariants as notices
use Rattle.mme_owners.specs.SubscriberLaws.{due_below, due_onward, some_give}
use Rattle.mme_owners.specs.Subscribers.{IsStepped}
use Rattle.mme_routing.specs.Destinations.{for_all}
use Rattle.mme_answering.specs.Settled.{item_sent}
use Rattle.mme_answering.specs.Sending.{each_known, each_sent}
use Rattle.mme_answering.proofs.Places.{keep_all}
use Rattle.mme_answering.proofs.Sent.{sends_after, sends_of_first, sends_same}
use Rattle.mme_answering.proofs.Stepping.{due_send, ticks_all}
use Rattle.mme_answering.proofs.preparing.prepare_tick.Goals as goal

pub send_due-requires : goal.send_due-requires
send_due-requires c = c.as_slice.ensures.value ∙ c.requires.due_strangers

pub prepare_each-requires-clause-called : goal.prepare_each-requires-clause-called
prepare_each-requires-clause-called c =
    let ws = c.args.subscribers.now.subscribers in
    subst (Every (λ k. k < length ws)) (sym (c.as_slice-called.ensures.value ∙ c.requires.due_slots)) (due_below ws)

pub returns-clause-prepares : goal.returns-clause-prepares
returns-clause-prepares c =
    let ws = c.args.subscribers.now.subscribers in
    let outs = c.args.outs.now in
    let mid = c.send_due.new.outs in
    let others = each_known notices.Tick c.args.strangers.now.strangers in
    let own = each_sent (for_all Tick) 0 ws in
    let xs = c.in_ok-stepped.stepped.items in
    let due = c.as_slice-called.ensures.value ∙ c.requires.due_slots in
    let done = c.in_ok-stepped.ensures.prepares in
    let each : Every (IsStepped Tick ws) xs = subst (λ i. Every (IsStepped i ws) xs) c.requires.tick done.stepped in
    λ ps. record {
      sends =
          done.sends ∙ ap (λ i. mid ++ some_give (item_sent i) c.as_slice-called.result.now ws) c.requires.tick
          ∙ ap (λ slots. mid ++ some_give (item_sent Tick) slots ws) due
          ∙ ap (λ os. mid ++ os) (due_send ws)
          ∙ ap (λ os. os ++ own) c.in_ok-send_due.ensures.sent
          ∙ append_assoc outs others own;
      strangers = refl;
      subscribers = ticks_all xs ws (done.slots ∙ due) each;
      fits = (
        done.slots ∙ due,
        done.counting,
        keep_all c.connections_come_so.ensures notices.Tick ws xs each,
        c.requires.due_strangers,
        due_onward xs ws (done.slots ∙ due) done.onward,
      );
      passing = refl;
    }

pub returns-in_err-send_due-clause-err : goal.returns-in_err-send_due-clause-err
returns-in_err-send_due-clause-err c =
    let p = err_from_is_err_and c.from_residual.result c.from_residual.ensures.1 in
    rw p.1 (λ ps. sends_of_first _ _ _ _ c.in_err-send_due.ensures.err)

pub returns-in_err-stepped-clause-err : goal.returns-in_err-stepped-clause-err
returns-in_err-stepped-clause-err c =
    let ws = c.args.subscribers.now.subscribers in
    let due = c.as_slice-called.ensures.value ∙ c.requires.due_slots in
    let own = ap (λ i. some_give (item_sent i) c.as_slice-called.result.now ws) c.requires.tick
    ∙ ap (λ slots. some_give (item_sent Tick) slots ws) due ∙ due_send ws in
    let p = err_from_is_err_and c.from_residual-in_err-stepped.result c.from_residual-in_err-stepped.ensures.1 in
    rw p.1
    (λ ps. sends_after _ _ _ _ _ c.in_ok-send_due.ensures.sent (sends_same _ _ _ _ own c.in_err-stepped.ensures.err))
