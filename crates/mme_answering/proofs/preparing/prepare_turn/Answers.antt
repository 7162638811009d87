use Rattle.std.proofs.Common.{◌++◌, List, map, refl, ◌∙◌, ap}
use Rattle.std.proofs.lemmas.List.{append_assoc}
use Rattle.std.proofs.lemmas.Result.{err_from_is_err_and}
use Rattle.stranger_machine.specs.Turns.{call_of}
use Rattle.mme_routing.specs.Destinations.{if_called}
use Rattle.mme_answering.specs.declared.out.Out.{Out}
use Rattle.mme_answering.specs.Sending.{each_sent, stranger_out}
use Rattle.mme_answering.proofs.Sent.{sends_after, sends_still}
use Rattle.mme_answering.proofs.preparing.prepare_turn.Goals as goal

pub returns-clause-prepares : goal.returns-clause-prepares
returns-clause-prepares c =
    let turn = c.args.turn in
    let own = map (stranger_out c.args.id) turn.sent in
    let called = each_sent (if_called (call_of c.args.stations.now turn.call)) 0 c.args.subscribers.now.subscribers in
    let done = c.in_ok-called.ensures.prepares in
    λ ks. record {
      sends = done.sends ∙ ap (λ (os : List Out). os ++ called) c.in_ok-send_all.ensures.sent ∙ append_assoc c.args.outs.now own called;
      strangers = refl;
      subscribers = done.subscribers;
      fits = done.fits;
      passing = λ d. tt;
    }

pub returns-in_err-send_all-clause-err : goal.returns-in_err-send_all-clause-err
returns-in_err-send_all-clause-err c =
    let p = err_from_is_err_and c.from_residual.result c.from_residual.ensures.1 in
    rw p.1 (λ ks. sends_still _ _ _ c.in_err-send_all.ensures.err)

pub returns-in_err-called-clause-err : goal.returns-in_err-called-clause-err
returns-in_err-called-clause-err c =
    let p = err_from_is_err_and c.from_residual-in_err-called.result c.from_residual-in_err-called.ensures.1 in
    rw p.1 (λ ks. sends_after _ _ _ _ _ c.in_ok-send_all.ensures.sent c.in_err-called.ensures.err)
