use Rattle.std.proofs.Common.{sym, ◌∙◌, ap}
use Rattle.std.proofs.lemmas.Result.{IfOk-weaker, on_err_weaker}
use Rattle.mme_types.specs.Events.{entry_lists}
use Rattle.stranger_machine.specs.Machine.{begins}
use Rattle.stranger_machine.specs.Turns.{turn_of}
use Rattle.mme_answering.proofs.Parts.{begun, begun_some}
use Rattle.mme_answering.proofs.preparing.prepare_beginner.Goals as goal

pub returns-clause-prepares : goal.returns-clause-prepares
returns-clause-prepares c =
    let id = c.args.id in
    let m = entry_lists c.args.entry.now in
    let x = c.in_ok-turn.turn in
    let ws = c.args.stations.now in
    let ks = c.args.strangers.now.strangers in
    let own = ap (λ o. turn_of ws o x) (sym c.find.ensures) ∙ c.in_ok-turn.ensures ws ∙ ap (λ o. begins id o m) c.find.ensures in
    IfOk-weaker c.prepare_turn.result _ _ (λ p h ps. begun ps id m ks _ _ _ p _ own (h ks)) c.prepare_turn.ensures.prepares

pub returns-clause-err : goal.returns-clause-err
returns-clause-err c =
    let id = c.args.id in
    let m = entry_lists c.args.entry.now in
    let x = c.in_ok-turn.turn in
    let ws = c.args.stations.now in
    let ks = c.args.strangers.now.strangers in
    let own = ap (λ o. turn_of ws o x) (sym c.find.ensures) ∙ c.in_ok-turn.ensures ws ∙ ap (λ o. begins id o m) c.find.ensures in
    on_err_weaker c.prepare_turn.result (λ h ps. begun_some ps id m ks _ _ _ _ own (h ks)) c.prepare_turn.ensures.err
