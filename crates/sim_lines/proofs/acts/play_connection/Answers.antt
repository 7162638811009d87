use Rattle.std.proofs.Common.{[]}
use Rattle.mme_core.specs.declared.event.Event.TheVariants.{Up}
use Rattle.sim_lines.proofs.Printing.{PrintsOn-then, PrintsOn-on}
use Rattle.sim_lines.proofs.Further.{played, stopped, then_on}
use Rattle.std.proofs.Common.{true, false, ◌++◌, ap, sym, ◌∙◌}
use Rattle.trace_words.specs.declared.line.Line.TheVariants as line
use Rattle.trace_words.specs.Trace.{line_text}
use Rattle.sim_lines.specs.Plays.{connecting}
use Rattle.sim_lines.specs.Turns.{Turned, delivering_sent, scene_of}
use Rattle.sim_lines.proofs.Playing.{PlaysQueue-as, PlaysUp-as, connecting-is, scene, sending-is}
use Rattle.sim_lines.proofs.acts.play_connection.Goals as goal

pub returns-in_err-sent-clause-goes : goal.returns-in_err-sent-clause-goes
returns-in_err-sent-clause-goes c = stopped (Up c.args.station) c.in_err-sent.ensures.stops c.in_err-sent.ensures.err

pub returns-in_err-deliver-clause-goes : goal.returns-in_err-deliver-clause-goes
returns-in_err-deliver-clause-goes c = played (Up c.args.station) [] c.requires c.in_ok-sent.ensures.printed c.in_ok-sent.ensures.after

pub returns-in_err-answered-clause-goes : goal.returns-in_err-answered-clause-goes
returns-in_err-answered-clause-goes c =
    then_on (played (Up c.args.station) [] c.requires c.in_ok-sent.ensures.printed c.in_ok-sent.ensures.after) c.play_set_up.ensures.goes

pub returns-in_err-deliver-2-clause-goes : goal.returns-in_err-deliver-2-clause-goes
returns-in_err-deliver-2-clause-goes c =
    then_on (played (Up c.args.station) [] c.requires c.in_ok-sent.ensures.printed c.in_ok-sent.ensures.after) c.play_set_up.ensures.goes

pub returns-clause-printed : goal.returns-clause-printed
returns-clause-printed c =
    let first = c.args.script.now.progress in
    let before = c.args.out.now.items in
    let asked = c.play_set_up.new.script.progress in
    let mid = c.play_set_up.new.out.items in
    PrintsOn-on c.play_queue.result first asked c.play_queue.new.script.progress before mid c.play_queue.new.out.items []
    (PrintsOn-then first c.play_up.new.progress asked before c.play_up.new.out.items mid [] c.in_ok-sent.ensures.printed c.in_ok-answered.ensures.printed)
    c.play_queue.ensures.printed

pub returns-clause-goes : goal.returns-clause-goes
returns-clause-goes c =
    then_on (then_on (played (Up c.args.station) [] c.requires c.in_ok-sent.ensures.printed c.in_ok-sent.ensures.after)
    c.play_set_up.ensures.goes) c.play_queue.ensures.goes

pub returns-then-not-has_station-clause-plays : goal.returns-then-not-has_station-clause-plays
returns-then-not-has_station-clause-plays c =
    PlaysUp-as c.play_acted.result c.args.station c.has_station.result false (scene_of c.args.script.now c.args.out.now.items)
    (scene_of c.play_acted.new.script c.play_acted.new.out.items) c.has_station.ensures c.if-not-has_station.true
    c.play_acted.ensures.plays

pub returns-clause-plays : goal.returns-clause-plays
returns-clause-plays c =
    let n = c.args.station in
    let old = c.args.script.now in
    let first = scene_of old c.args.out.now.items in
    let new = scene_of c.play_queue.new.script c.play_queue.new.out.items in
    let up = c.play_up.new.progress in
    let page = c.play_up.new.out.items in
    let sent = c.in_ok-sent.sent in
    let asked = c.play_set_up.new.script in
    let told = c.play_set_up.new.out.items in
    let answered = c.in_ok-answered.answered in
    let one = delivering_sent sent old.crowd in
    let two = delivering_sent answered asked.crowd in
    let is =
    connecting-is n first sent up old.crowd c.deliver.new.crowd page answered asked.progress asked.crowd c.deliver-2.new.crowd told
    (sending-is (Up n) (line_text (line.Up n)) old.progress up old.crowd c.args.out.now.items page sent c.requires
    c.in_ok-sent.ensures.sent c.in_ok-sent.ensures.after c.in_ok-sent.ensures.shown)
    c.in_ok-deliver.ensures.crowd c.in_ok-answered.ensures.sends c.in_ok-deliver-2.ensures.crowd in
    let queue =
    c.in_ok-deliver-2.ensures.queue ∙ ap (λ v. v ++ two.sent) c.in_ok-deliver.ensures.queue
    ∙ ap (λ v. (v ++ one.sent) ++ two.sent) c.new-queue.ensures.items in
    PlaysUp-as c.play_queue.result n c.has_station.result true first new c.has_station.ensures c.if-not-has_station.false
    (PlaysQueue-as c.play_queue.result c.deliver-2.new.queue.items (connecting n first).sent (scene asked.progress c.deliver-2.new.crowd told)
    (connecting n first).scene new (queue ∙ ap (λ (t : Turned). t.sent) (sym is)) (ap (λ (t : Turned). t.scene) (sym is))
    c.play_queue.ensures.plays)
