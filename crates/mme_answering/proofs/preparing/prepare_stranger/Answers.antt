use Rattle.std.proofs.Common.{sym, ◌∙◌, ap}
use Rattle.std.proofs.lemmas.Result.{IfOk-weaker, on_err_weaker}
use Rattle.mme_types.specs.Events.{message_lists}
use Rattle.stranger_machine.specs.Machine.{receives}
use Rattle.stranger_machine.specs.Turns.{turn_of}
use Rattle.mme_answering.proofs.Parts.{received, received_some}
use Rattle.mme_answering.proofs.preparing.prepare_stranger.Goals as goal

pub returns-clause-prepares : goal.returns-clause-prepares
returns-clause-prepares c =
    let ps = c.args.provision.now.profiles in
    let m = message_lists c.args.message.now in
    let x = c.in_ok-turn.turn in
    let ws = c.args.stations.now in
    let ks = c.args.strangers.now.strangers in
    let own = ap (λ o. turn_of ws o x) (sym c.find.ensures) ∙ c.in_ok-turn.ensures ws ∙ ap (λ o. receives ps o m) c.find.ensures in
    IfOk-weaker c.prepare_turn.result _ _ (λ p h. received ps m ks _ _ _ p _ own (h ks)) c.prepare_turn.ensures.prepares

pub returns-clause-err : goal.returns-clause-err
returns-clause-err c =
    let ps = c.args.provision.now.profiles in
    let m = message_lists c.args.message.now in
    let x = c.in_ok-turn.turn in
    let ws = c.args.stations.now in
    let ks = c.args.strangers.now.strangers in
    let own = ap (λ o. turn_of ws o x) (sym c.find.ensures) ∙ c.in_ok-turn.ensures ws ∙ ap (λ o. receives ps o m) c.find.ensures in
    on_err_weaker c.prepare_turn.result (λ h. received_some ps m ks _ _ _ _ own (h ks)) c.prepare_turn.ensures.err
