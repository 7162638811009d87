use Rattle.std.proofs.Common.{◌++◌, List, map, sym, ◌∙◌, ap, append-nil}
use Rattle.std.proofs.lemmas.Result.{on_ok_weaker, on_err_weaker}
use Rattle.std.specs.Prelude.{option_map}
use Rattle.stranger_machine.specs.Lent.{lent_now}
use Rattle.mme_answering.specs.declared.out.Out.{Out}
use Rattle.mme_answering.specs.Sending.{stranger_out}
use Rattle.mme_answering.proofs.Known.{found_sent, none_sent}
use Rattle.mme_answering.proofs.Sent.{sends_still}
use Rattle.mme_answering.proofs.sending.send_one.Goals as goal

pub returns-in_default-clause-sent : goal.returns-in_default-clause-sent
returns-in_default-clause-sent c =
    let ks = c.args.strangers.now.strangers in
    let none = sym c.find.ensures ∙ ap (option_map lent_now) c.in_default.is in
    sym (ap (λ (os : List Out). c.args.outs.now ++ os) (none_sent c.args.id ks none) ∙ append-nil c.args.outs.now)

pub returns-clause-sent : goal.returns-clause-sent
returns-clause-sent c =
    let ks = c.args.strangers.now.strangers in
    let there = sym c.find.ensures ∙ ap (option_map lent_now) c.in-Some.is in
    on_ok_weaker c.send_all.result (λ h. h ∙ ap (λ sent. c.args.outs.now ++ map (stranger_out c.args.id) sent) c.in_ok-sent.ensures
    ∙ ap (λ (os : List Out). c.args.outs.now ++ os)
    (sym (found_sent c.args.id (lent_now c.in-Some.known) ks there))) c.send_all.ensures.sent

pub returns-clause-err : goal.returns-clause-err
returns-clause-err c = on_err_weaker c.send_all.result (sends_still _ _ _) c.send_all.ensures.err
