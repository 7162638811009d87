use Rattle.std.proofs.Common.{◌++◌, sym, ◌∙◌, ap, refl}
use Rattle.std.proofs.lemmas.List.{append-nil}
use Rattle.std.proofs.lemmas.Result.{err_from_is_err_and, on_err_weaker}
use Rattle.mme_owners.specs.declared.owners.Owners.TheInside.{Inside}
use Rattle.mme_owners.specs.Owners.{OwnersView}
use Rattle.mme_types.specs.Events.{entry_lists}
use Rattle.mme_routing.specs.Destinations.{Beginner}
use Rattle.mme_routing.specs.Seen.{destination_of}
use Rattle.mme_answering.proofs.Calling.{after_nothing, sends_nothing}
use Rattle.mme_answering.proofs.Parts.{sends_there}
use Rattle.mme_answering.proofs.preparing.prepare.Goals as goal

pub returns-in-Nobody-clause-prepares : goal.returns-in-Nobody-clause-prepares
returns-in-Nobody-clause-prepares c =
    let ws = c.args.owners.now.subscribers in
    let outs = c.args.outs.now in
    rw c.in-Nobody.is (record {
      sends = sym (ap (λ os. outs ++ os) (sends_nothing 0 _ ws (λ m le. refl)) ∙ append-nil outs);
      strangers = refl;
      subscribers = sym (after_nothing 0 _ ws (λ m le. refl));
      fits = tt;
      passing = tt;
    })

pub returns-in-Beginner-clause-err : goal.returns-in-Beginner-clause-err
returns-in-Beginner-clause-err c =
    let ks = ap (λ (i : Inside). i.records.strangers) c.owners-inside.view_is ∙ ap (λ (v : OwnersView). v.strangers) c.owners.view_is in
    let ws = ap (λ (i : Inside). i.records.subscribers) c.owners-inside.view_is ∙ ap (λ (v : OwnersView). v.subscribers) c.owners.view_is in
    let ps = c.args.provision.now.profiles in
    rw c.in-Beginner.is (on_err_weaker c.prepare_beginner.result (λ h. sends_there ps (Beginner c.in-Beginner.id (entry_lists c.in-Beginner.entry)) _ _ _ _ _ _ ks ws (h ps)) c.prepare_beginner.ensures.err)

pub returns-in_err-stepped-in-Subscriber-clause-err : goal.returns-in_err-stepped-in-Subscriber-clause-err
returns-in_err-stepped-in-Subscriber-clause-err c =
    let ws = ap (λ (i : Inside). i.records.subscribers) c.owners-inside.view_is ∙ ap (λ (v : OwnersView). v.subscribers) c.owners.view_is in
    let p = err_from_is_err_and c.from_residual.result c.from_residual.ensures.1 in
    rw (p.1, c.in-Subscriber.is, ← ws) c.in_err-stepped-in-Subscriber.ensures.err

pub returns-in_default-clause-err : goal.returns-in_default-clause-err
returns-in_default-clause-err c =
    let ks = ap (λ (i : Inside). i.records.strangers) c.owners-inside.view_is ∙ ap (λ (v : OwnersView). v.strangers) c.owners.view_is in
    let ws = ap (λ (i : Inside). i.records.subscribers) c.owners-inside.view_is ∙ ap (λ (v : OwnersView). v.subscribers) c.owners.view_is in
    let ps = c.args.provision.now.profiles in
    let destination = destination_of c.args.stations.now c.args.destination in
    on_err_weaker c.prepare_everyone.result (λ h. sends_there ps destination _ _ _ _ _ _ ks ws (h ps)) c.prepare_everyone.ensures.err
