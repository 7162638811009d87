use Rattle.std.proofs.Common.{[]}
use Rattle.trace_progress.specs.Effects.{in_event}
use Rattle.sim_lines.proofs.Printing.{PrintsOn-on}
use Rattle.sim_lines.proofs.Further.{played_in, stopped, then_on}
use Rattle.sim_lines.specs.Turns.{message_sending, scene_of, sending_as, uplink_of}
use Rattle.sim_lines.proofs.Playing.{PlaysAnswers-as, message_sending-is, scene}
use Rattle.sim_lines.proofs.turns.play_message.Goals as goal

pub returns-in_err-sent-clause-goes : goal.returns-in_err-sent-clause-goes
returns-in_err-sent-clause-goes c =
    stopped (in_event c.args.station c.args.octets.now) c.in_err-sent.ensures.stops c.in_err-sent.ensures.err

pub returns-clause-printed : goal.returns-clause-printed
returns-clause-printed c =
    PrintsOn-on c.play_answers.result c.args.script.now.progress c.play_in.new.progress c.play_answers.new.script.progress
    c.args.out.now.items c.play_in.new.out.items c.play_answers.new.out.items [] c.in_ok-sent.ensures.printed c.play_answers.ensures.printed

pub returns-clause-goes : goal.returns-clause-goes
returns-clause-goes c =
    then_on (played_in c.args.station c.args.octets.now c.requires c.in_ok-sent.ensures.printed c.in_ok-sent.ensures.after
    c.in_ok-sent.ensures.unsent) c.play_answers.ensures.goes

pub returns-clause-plays : goal.returns-clause-plays
returns-clause-plays c =
    let old = c.args.script.now in
    let sent = c.in_ok-sent.sent in
    let progress = c.play_in.new.progress in
    let page = c.play_in.new.out.items in
    PlaysAnswers-as c.play_answers.result (sending_as sent (scene progress old.crowd page))
    (message_sending (uplink_of c.args.station c.args.octets.now) (scene_of old c.args.out.now.items))
    (scene_of c.play_answers.new.script c.play_answers.new.out.items)
    (message_sending-is c.args.station c.args.octets.now old.progress progress old.crowd c.args.out.now.items page sent c.requires
    c.in_ok-sent.ensures.sent c.in_ok-sent.ensures.long c.in_ok-sent.ensures.unsent c.in_ok-sent.ensures.after
    c.in_ok-sent.ensures.shown)
    c.play_answers.ensures.plays
