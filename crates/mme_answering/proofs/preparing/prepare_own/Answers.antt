use Rattle.std.proofs.Common.{◌++◌, sym, ◌∙◌, ap}
use Rattle.std.proofs.lemmas.List.{append-nil}
use Rattle.mme_types.specs.Events.{item_of}
use Rattle.mme_answering.proofs.Calling.{call_still}
use Rattle.mme_answering.proofs.preparing.prepare_own.Goals as goal

pub returns-then-is_still-clause-prepares : goal.returns-then-is_still-clause-prepares
returns-then-is_still-clause-prepares c =
    let item = item_of c.args.event.now c.args.stations.now in
    let stays =
    call_still c.args.slot item c.args.owners.now.subscribers (sym (c.is_still.ensures c.args.stations.now) ∙ c.if-is_still.true) in
    record {
      sends = sym (ap (λ os. c.args.outs.now ++ os) stays.1 ∙ append-nil c.args.outs.now);
      subscribers = sym stays.0;
      fits = tt;
    }
