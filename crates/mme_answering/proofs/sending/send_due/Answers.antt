use Rattle.std.proofs.Common.{◌++◌, List, ◌∙◌, ap}
use Rattle.std.proofs.lemmas.Result.{on_ok_weaker, on_err_weaker}
use Rattle.stranger_machine.specs.declared.turn.Notice.TheVariants.{Tick}
use Rattle.mme_tables.specs.StrangerLaws.{some_known_give}
use Rattle.mme_answering.specs.declared.out.Out.{Out}
use Rattle.mme_answering.specs.Settled.{known_sent}
use Rattle.mme_answering.proofs.Known.{due_known}
use Rattle.mme_answering.proofs.Sent.{sends_same}
use Rattle.mme_answering.proofs.sending.send_due.Goals as goal

pub returns-clause-sent : goal.returns-clause-sent
returns-clause-sent c =
    let ks = c.args.strangers.now.strangers in
    on_ok_weaker c.send_some.result (λ h. h ∙ ap (λ ids. c.args.outs.now ++ some_known_give (known_sent Tick) ids ks) c.requires
    ∙ ap (λ (os : List Out). c.args.outs.now ++ os) (due_known ks c.clock.ensures.order)) c.send_some.ensures.sent

pub returns-clause-err : goal.returns-clause-err
returns-clause-err c =
    let ks = c.args.strangers.now.strangers in
    let all = ap (λ ids. some_known_give (known_sent Tick) ids ks) c.requires ∙ due_known ks c.clock.ensures.order in
    on_err_weaker c.send_some.result (sends_same _ _ _ _ all) c.send_some.ensures.err
