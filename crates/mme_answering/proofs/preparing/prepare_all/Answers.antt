use Rattle.std.proofs.Common.{◌<◌, ◌++◌, List, length, sym, ◌∙◌, ap, refl, subst}
use Rattle.std.proofs.lemmas.Result.{IfOk-weaker, on_err_weaker}
use Rattle.sorted_list.specs.Ordered.{Every}
use Rattle.mme_owners.specs.SubscriberLaws.{some_give, touched_below, touched_onward}
use Rattle.mme_owners.specs.Subscribers.{IsStepped}
use Rattle.mme_routing.specs.Destinations.{for_all, item_of_notice}
use Rattle.mme_answering.specs.declared.out.Out.{Out}
use Rattle.mme_answering.specs.Settled.{item_sent}
use Rattle.mme_answering.specs.Sending.{each_sent}
use Rattle.mme_answering.proofs.Known.{none_known}
use Rattle.mme_answering.proofs.Places.{noticed_are, outlive_all}
use Rattle.mme_answering.proofs.Sent.{sends_same}
use Rattle.mme_answering.proofs.Stepping.{touched_fit, touched_send, touches_all}
use Rattle.mme_answering.proofs.preparing.prepare_all.Goals as goal

pub prepare_each-requires-clause-called : goal.prepare_each-requires-clause-called
prepare_each-requires-clause-called c =
    let ws = c.args.subscribers.now.subscribers in
    subst (Every (λ k. k < length ws)) (sym (c.as_slice-called.ensures.value ∙ c.requires.touched))
    (touched_below (item_of_notice c.args.notice.now) ws)

pub returns-clause-prepares : goal.returns-clause-prepares
returns-clause-prepares c =
    let ws = c.args.subscribers.now.subscribers in
    let outs = c.args.outs.now in
    let notice = c.args.notice.now in
    let item = item_of_notice notice in
    let own = each_sent (for_all item) 0 ws in
    let due = c.as_slice-called.ensures.value ∙ c.requires.touched in
    IfOk-weaker c.prepare_each.result _ _ (λ xs done ps ks.
    let each : Every (IsStepped item ws) xs.items = subst (λ i. Every (IsStepped i ws) xs.items) c.requires.event done.stepped in
    let fit =
    touched_fit item xs.items ws (done.slots ∙ due) done.counting
    (touched_onward item xs.items ws (done.slots ∙ due) done.onward) in
    record {
      sends =
          done.sends ∙ ap (λ i. outs ++ some_give (item_sent i) c.as_slice-called.result.now ws) c.requires.event
          ∙ ap (λ slots. outs ++ some_give (item_sent item) slots ws) due
          ∙ ap (λ (os : List Out). outs ++ os) (touched_send item ws)
          ∙ ap (λ (os : List Out). outs ++ (os ++ own)) (sym (none_known notice ks c.requires.station));
      strangers = refl;
      subscribers = touches_all item xs.items ws (done.slots ∙ due) each;
      fits = (
        fit.0,
        fit.1,
        c.requires.station,
        outlive_all c.connections_come_so.ensures notice ws xs.items each,
        done.slots ∙ due ∙ noticed_are notice ws c.requires.station,
      );
      passing = tt;
    }) c.prepare_each.ensures.prepares

pub returns-clause-err : goal.returns-clause-err
returns-clause-err c =
    let ws = c.args.subscribers.now.subscribers in
    let notice = c.args.notice.now in
    let item = item_of_notice notice in
    let own = each_sent (for_all item) 0 ws in
    let touched = c.as_slice-called.ensures.value ∙ c.requires.touched in
    let all = ap (λ i. some_give (item_sent i) c.as_slice-called.result.now ws) c.requires.event
    ∙ ap (λ slots. some_give (item_sent item) slots ws) touched ∙ touched_send item ws in
    on_err_weaker c.prepare_each.result (λ h ps ks. sends_same _ _ _ _
    (all ∙ ap (λ (os : List Out). os ++ own) (sym (none_known notice ks c.requires.station))) h) c.prepare_each.ensures.err
