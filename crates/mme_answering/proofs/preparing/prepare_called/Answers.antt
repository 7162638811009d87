use Rattle.std.proofs.Common.{◌++◌, sym, ◌∙◌, ap, refl}
use Rattle.std.proofs.lemmas.List.{append-nil}
use Rattle.mme_answering.proofs.Calling.{after_nothing, sends_nothing}
use Rattle.mme_answering.proofs.preparing.prepare_called.Goals as goal

pub returns-in-Some-clause-prepares : goal.returns-in-Some-clause-prepares
returns-in-Some-clause-prepares c = rw c.in-Some.is c.prepare_one.ensures.prepares

pub returns-in-None-clause-prepares : goal.returns-in-None-clause-prepares
returns-in-None-clause-prepares c =
    let ws = c.args.subscribers.now.subscribers in
    let outs = c.args.outs.now in
    rw c.in-None.is (record {
      sends = sym (ap (λ os. outs ++ os) (sends_nothing 0 _ ws (λ m le. refl)) ∙ append-nil outs);
      subscribers = sym (after_nothing 0 _ ws (λ m le. refl));
      fits = tt;
    })

pub returns-in-Some-clause-err : goal.returns-in-Some-clause-err
returns-in-Some-clause-err c = rw c.in-Some.is c.prepare_one.ensures.err
