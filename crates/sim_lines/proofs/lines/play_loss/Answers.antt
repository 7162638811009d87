use Rattle.std.proofs.Common.{[], sym, ap, ◌∙◌}
use Rattle.mme_core.specs.declared.event.Event.TheVariants as event
use Rattle.sim_lines.proofs.Printing.{PrintsOn-on}
use Rattle.sim_lines.proofs.Further.{played, stopped, then_on}
use Rattle.trace_words.specs.declared.line.Line.TheVariants.{Lost}
use Rattle.trace_words.specs.Trace.{line_text}
use Rattle.sim_crowd.specs.declared.crowd.Crowd.{Crowd}
use Rattle.sim_lines.specs.Turns.{scene_of, sending, sending_as}
use Rattle.sim_lines.specs.Plays.{losing}
use Rattle.sim_lines.proofs.Playing.{PlaysAnswers-as, scene, sending-is}
use Rattle.sim_lines.proofs.lines.play_loss.Goals as goal

pub returns-in_err-sent-clause-goes : goal.returns-in_err-sent-clause-goes
returns-in_err-sent-clause-goes c = stopped (event.Lost c.args.station) c.in_err-sent.ensures.stops c.in_err-sent.ensures.err

pub returns-clause-printed : goal.returns-clause-printed
returns-clause-printed c =
    PrintsOn-on c.play_answers.result c.args.script.now.progress c.play_lost.new.progress c.play_answers.new.script.progress
    c.args.out.now.items c.play_lost.new.out.items c.play_answers.new.out.items
    [] c.in_ok-sent.ensures.printed c.play_answers.ensures.printed

pub returns-clause-goes : goal.returns-clause-goes
returns-clause-goes c =
    then_on (played (event.Lost c.args.station) [] c.requires c.in_ok-sent.ensures.printed c.in_ok-sent.ensures.after)
    c.play_answers.ensures.goes

pub returns-clause-plays : goal.returns-clause-plays
returns-clause-plays c =
    let n = c.args.station in
    let old = c.args.script.now in
    let line = line_text (Lost n) in
    let sent = c.in_ok-sent.sent in
    let progress = c.play_lost.new.progress in
    let page = c.play_lost.new.out.items in
    let is =
    sending-is (event.Lost n) line old.progress progress old.crowd c.args.out.now.items page sent c.requires
    c.in_ok-sent.ensures.sent c.in_ok-sent.ensures.after c.in_ok-sent.ensures.shown in
    PlaysAnswers-as c.play_answers.result (sending_as sent (scene progress c.lose.new.self page))
    (losing n (sending (event.Lost n) line (scene_of old c.args.out.now.items)))
    (scene_of c.play_answers.new.script c.play_answers.new.out.items)
    (ap (losing n) is ∙ ap (λ (v : Crowd). sending_as sent (scene progress v page)) (sym c.lose.ensures))
    c.play_answers.ensures.plays
