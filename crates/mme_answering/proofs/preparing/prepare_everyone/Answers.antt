use Rattle.std.proofs.Common.{List, refl, ◌∙◌, ap}
use Rattle.std.proofs.lemmas.Result.{err_from_is_err_and}
use Rattle.identity_slots.specs.declared.profile.Profile.{Profile}
use Rattle.mme_owners.specs.declared.owners.Owners.TheInside.{Inside}
use Rattle.mme_owners.specs.Owners.{OwnersView}
use Rattle.mme_routing.specs.Destinations.{Everyone}
use Rattle.mme_answering.proofs.Parts.{prepares_there, sends_there}
use Rattle.mme_answering.proofs.preparing.prepare_everyone.Goals as goal
use Rattle.mme_answering.proofs.preparing.prepare_everyone.Goals.{in-Listed-2, in-Tick-2}

pub returns-in-Everyone-Tick-clause-prepares : goal.returns-in-Everyone-Tick-clause-prepares
returns-in-Everyone-Tick-clause-prepares c = rw (c.in-Everyone-Tick.is, c.in-Everyone-Tick.field-0-is) c.prepare_due.ensures.prepares

pub returns-in_ok-stepped-in-Everyone-clause-prepares : goal.returns-in_ok-stepped-in-Everyone-clause-prepares
returns-in_ok-stepped-in-Everyone-clause-prepares c =
    let ws = ap (λ (i : Inside). i.records.subscribers) c.owners-inside.view_is ∙ ap (λ (v : OwnersView). v.subscribers) c.owners.view_is in
    λ ps. rw c.in-Everyone.is (prepares_there ps _ _ _ _ _ _ _ _ refl ws (c.in_ok-stepped-in-Everyone.ensures.prepares ps c.args.owners.now.strangers))

pub returns-in-Everyone-Tick-clause-err : goal.returns-in-Everyone-Tick-clause-err
returns-in-Everyone-Tick-clause-err c = rw (c.in-Everyone-Tick.is, c.in-Everyone-Tick.field-0-is) c.prepare_due.ensures.err

pub returns-in_err-stepped-in-Everyone-clause-err : goal.returns-in_err-stepped-in-Everyone-clause-err
returns-in_err-stepped-in-Everyone-clause-err c =
    let ws = ap (λ (i : Inside). i.records.subscribers) c.owners-inside.view_is ∙ ap (λ (v : OwnersView). v.subscribers) c.owners.view_is in
    let p = err_from_is_err_and c.from_residual-in_err-stepped-in-Everyone.result c.from_residual-in_err-stepped-in-Everyone.ensures.1 in
    let h = c.in_err-stepped-in-Everyone.ensures.err in
    let ks = c.args.owners.now.strangers in
    let some = λ (ps : List Profile). sends_there ps (Everyone c.in-Everyone.notice) ks ks _ _ _ _ refl ws (h ps ks) in
    elim c.match-notice-2.branch [
      | in-Listed-2 w ↦ rw (p.1, c.in-Everyone.is) some
      | in-Tick-2 w ↦ rw (p.1, c.in-Everyone.is) some
    ]
