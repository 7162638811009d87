use Rattle.std.proofs.Common.{sym, ◌∙◌}
use Rattle.trace_words.specs.declared.line.Line.TheVariants.{Show}
use Rattle.trace_progress.specs.Effects.{states_of_imsi, states_shown}
use Rattle.c_session.specs.Texts.{first_events}
use Rattle.c_session.proofs.Texts.{says_no_room, says_unknown, says_unstarted}
use Rattle.c_session.proofs.session.Session.say_states.Goals as goal

pub returns-in-Err : goal.returns-in-Err
returns-in-Err c =
    let imsi = c.args.imsi in
    rw c.undone.ensures
    (says_unstarted c.args.self.now c.start.new.self c.in-Err.refusal (λ w. states_shown imsi w (states_of_imsi imsi w))
    (first_events c.args.self.now.progress (Show imsi)) 1 c.args.room c.args.answers.now.items c.in-Err.ensures)

pub returns-in_default-states_of_imsi : goal.returns-in_default-states_of_imsi
returns-in_default-states_of_imsi c =
    rw c.undone-in_default-states_of_imsi.ensures
    (says_unknown c.args.self.now c.start.new.self c.in-Running.mme c.args.imsi c.args.room c.args.answers.now.items c.in-Ok.ensures
    c.in-Running.is (sym c.states_of_imsi.ensures ∙ c.in_default-states_of_imsi.is))

pub returns-in-Err-push_answer : goal.returns-in-Err-push_answer
returns-in-Err-push_answer c =
    rw c.undone-in-Err-push_answer.ensures
    (says_no_room c.args.self.now c.start.new.self c.in-Running.mme c.args.imsi c.in-Some.states c.args.room
    c.args.answers.now.items c.push_answer.new.answers.items c.in-Err-push_answer.refusal c.in-Ok.ensures c.in-Running.is
    (sym c.states_of_imsi.ensures ∙ c.in-Some.is) c.in-Err-push_answer.ensures.why c.in-Err-push_answer.ensures.unsaid)
