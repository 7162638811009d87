use Rattle.std.proofs.Common.{Option, ◌++◌, ap, sym, ◌∙◌}
use Rattle.sim_printing.proofs.Played.{Prints-show}
use Rattle.emm_machine.specs.declared.subscriber.States.{States}
use Rattle.trace_answers.specs.Words.{states_text}
use Rattle.sim_printing.specs.Shown.{as_comment, with_states}
use Rattle.sim_printing.proofs.events.print_show.Goals as goal

pub returns-in-Ok-clause-printed : goal.returns-in-Ok-clause-printed
returns-in-Ok-clause-printed c = λ _.
    Prints-show c.first_word_tells.ensures c.args.mme.now c.args.imsi c.in-Some.states c.args.out.now.items c.push_line.new.out.items c.push_states.new.out.items
    c.args.text.now c.requires (sym c.in-Some.ensures) c.in_ok-push_line.ensures.added c.in-Ok.ensures.added

pub returns-in-Ok-clause-shown : goal.returns-in-Ok-clause-shown
returns-in-Ok-clause-shown c =
    let imsi = c.args.imsi in
    let shown = λ (o : Option States). with_states c.args.text.now imsi o c.args.out.now.items in
    c.in-Ok.ensures.appended ∙ ap (λ v. v ++ as_comment (states_text imsi c.in-Some.states)) c.in_ok-push_line.ensures.added
    ∙ ap shown c.in-Some.ensures
