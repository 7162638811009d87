use Rattle.std.proofs.Common.{◌++◌, arith, sym, ◌∙◌, ap}
use Rattle.std.proofs.lemmas.List.{append-nil}
use Rattle.std.proofs.lemmas.Result.{err_from_is_err_and}
use Rattle.mme_types.specs.Events.{item_of}
use Rattle.mme_answering.specs.Settled.{with_solo}
use Rattle.mme_answering.proofs.Calling.{call_past}
use Rattle.mme_answering.proofs.Sent.{sends_same}
use Rattle.mme_answering.proofs.Stepping.{called_after, called_sends}
use Rattle.mme_answering.proofs.preparing.prepare_one.Goals as goal

pub returns-then-place-len-clause-prepares : goal.returns-then-place-len-clause-prepares
returns-then-place-len-clause-prepares c =
    let ws = c.args.subscribers.now.subscribers in
    let item = item_of c.args.event.now c.args.stations.now in
    let past = call_past c.args.slot item ws (omega (arith, c.if-place-len.true, c.len.ensures.value, c.get-place.ensures.value)) in
    record {
      sends = sym (ap (λ os. c.args.outs.now ++ os) past.1 ∙ append-nil c.args.outs.now);
      subscribers = sym past.0;
      fits = tt;
    }

pub returns-clause-prepares : goal.returns-clause-prepares
returns-clause-prepares c =
    let ws = c.args.subscribers.now.subscribers in
    let item = item_of c.args.event.now c.args.stations.now in
    let one = c.in_ok-one.one in
    let done = c.in_ok-one.ensures in
    record {
      sends = done.sends ∙ ap (λ os. c.args.outs.now ++ os) (called_sends c.args.slot item ws);
      subscribers = ap (λ n. with_solo n one.solo ws) done.slot ∙ called_after c.args.slot item ws one.solo done.after;
      fits = (
        omega (arith, done.slot, c.if-place-len.false, c.len.ensures.value, c.get-place.ensures.value),
        done.counting,
        done.onward,
      );
    }

pub returns-in_err-one-clause-err : goal.returns-in_err-one-clause-err
returns-in_err-one-clause-err c =
    let ws = c.args.subscribers.now.subscribers in
    let item = item_of c.args.event.now c.args.stations.now in
    let p = err_from_is_err_and c.from_residual.result c.from_residual.ensures.1 in
    rw p.1 (sends_same _ _ _ _ (called_sends c.args.slot item ws) c.in_err-one.ensures.err)
