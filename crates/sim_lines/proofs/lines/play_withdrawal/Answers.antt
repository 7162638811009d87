use Rattle.trace_words.specs.declared.line.Line.TheVariants.{Cancel}
use Rattle.trace_words.specs.Kept.{kept_line}
use Rattle.mme_core.specs.declared.event.Event.TheVariants as event
use Rattle.sim_lines.proofs.Printing.{PrintsOn-on}
use Rattle.sim_lines.proofs.Further.{played, stopped, then_on}
use Rattle.sim_lines.specs.Turns.{scene_of, sending, sending_as}
use Rattle.sim_lines.proofs.Playing.{PlaysAnswers-as, scene, sending-is}
use Rattle.sim_lines.proofs.lines.play_withdrawal.Goals as goal

pub returns-in_err-sent-clause-goes : goal.returns-in_err-sent-clause-goes
returns-in_err-sent-clause-goes c = stopped (event.Cancel c.args.imsi) c.in_err-sent.ensures.stops c.in_err-sent.ensures.err

pub returns-clause-printed : goal.returns-clause-printed
returns-clause-printed c =
    PrintsOn-on c.play_answers.result c.args.script.now.progress c.play_cancel.new.progress c.play_answers.new.script.progress
    c.args.out.now.items c.play_cancel.new.out.items c.play_answers.new.out.items
    (kept_line (Cancel c.args.imsi)) c.in_ok-sent.ensures.printed c.play_answers.ensures.printed

pub returns-clause-goes : goal.returns-clause-goes
returns-clause-goes c =
    then_on (played (event.Cancel c.args.imsi) (kept_line (Cancel c.args.imsi)) c.requires.begun c.in_ok-sent.ensures.printed c.in_ok-sent.ensures.after)
    c.play_answers.ensures.goes

pub returns-clause-plays : goal.returns-clause-plays
returns-clause-plays c =
    let happens = event.Cancel c.args.imsi in
    let text = c.args.text.now in
    let old = c.args.script.now in
    let sent = c.in_ok-sent.sent in
    let progress = c.play_cancel.new.progress in
    let page = c.play_cancel.new.out.items in
    PlaysAnswers-as c.play_answers.result (sending_as sent (scene progress old.crowd page))
    (sending happens text (scene_of old c.args.out.now.items)) (scene_of c.play_answers.new.script c.play_answers.new.out.items)
    (sending-is happens text old.progress progress old.crowd c.args.out.now.items page sent c.requires.begun
    c.in_ok-sent.ensures.sent c.in_ok-sent.ensures.after c.in_ok-sent.ensures.shown)
    c.play_answers.ensures.plays
