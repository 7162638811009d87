use Rattle.std.proofs.Common.{◌∙◌, ap}
use Rattle.std.proofs.lemmas.Result.{IfOk-weaker, on_err_weaker}
use Rattle.mme_owners.specs.declared.owners.Owners.TheInside.{Inside}
use Rattle.mme_owners.specs.Owners.{OwnersView}
use Rattle.stranger_machine.specs.declared.turn.Notice.TheVariants.{Tick}
use Rattle.mme_routing.specs.Destinations.{Everyone}
use Rattle.mme_answering.proofs.Parts.{prepares_there, sends_there}
use Rattle.mme_answering.proofs.preparing.prepare_due.Goals as goal

pub returns-clause-prepares : goal.returns-clause-prepares
returns-clause-prepares c =
    let ks = ap (λ (i : Inside). i.records.strangers) c.owners-inside.view_is ∙ ap (λ (v : OwnersView). v.strangers) c.owners.view_is in
    let ws = ap (λ (i : Inside). i.records.subscribers) c.owners-inside.view_is ∙ ap (λ (v : OwnersView). v.subscribers) c.owners.view_is in
    IfOk-weaker c.prepare_tick.result _ _ (λ p h ps. prepares_there ps _ _ _ _ _ _ _ p ks ws (h ps)) c.prepare_tick.ensures.prepares

pub returns-clause-err : goal.returns-clause-err
returns-clause-err c =
    let ks = ap (λ (i : Inside). i.records.strangers) c.owners-inside.view_is ∙ ap (λ (v : OwnersView). v.strangers) c.owners.view_is in
    let ws = ap (λ (i : Inside). i.records.subscribers) c.owners-inside.view_is ∙ ap (λ (v : OwnersView). v.subscribers) c.owners.view_is in
    on_err_weaker c.prepare_tick.result (λ h ps. sends_there ps (Everyone Tick) _ _ _ _ _ _ ks ws (h ps)) c.prepare_tick.ensures.err
