use Rattle.trace_words.specs.declared.line.Line.TheVariants.{Up, Lost, In, Tick, Data, Cancel}
use Rattle.sim_lines.proofs.Printing.{PrintsOn-line}
use Rattle.std.proofs.Common.{ℕ, OnOk, subst}
use Rattle.sim_lines.specs.Plays.{PlaysTicks}
use Rattle.sim_lines.specs.Turns.{scene_of}
use Rattle.sim_lines.proofs.Playing.{PlaysLine-as}
use Rattle.sim_lines.proofs.lines.play_event.Goals as goal

pub returns-in-Up-clause-printed : goal.returns-in-Up-clause-printed
returns-in-Up-clause-printed c =
    PrintsOn-line c.play_act.result c.args.line (Up c.in-Up.station) c.args.script.now.progress c.play_act.new.script.progress
    c.args.out.now.items c.play_act.new.out.items c.in-Up.is c.play_act.ensures.printed

pub returns-in-Lost-clause-printed : goal.returns-in-Lost-clause-printed
returns-in-Lost-clause-printed c =
    PrintsOn-line c.play_loss.result c.args.line (Lost c.in-Lost.station) c.args.script.now.progress c.play_loss.new.script.progress
    c.args.out.now.items c.play_loss.new.out.items c.in-Lost.is c.play_loss.ensures.printed

pub returns-in-In-clause-printed : goal.returns-in-In-clause-printed
returns-in-In-clause-printed c =
    PrintsOn-line c.play_act-in-In.result c.args.line
    (In c.in-In.station c.in-In.octets) c.args.script.now.progress c.play_act-in-In.new.script.progress
    c.args.out.now.items c.play_act-in-In.new.out.items c.in-In.is c.play_act-in-In.ensures.printed

pub returns-in-Tick-clause-printed : goal.returns-in-Tick-clause-printed
returns-in-Tick-clause-printed c =
    PrintsOn-line c.play_ticks.result c.args.line (Tick c.in-Tick.ticks) c.args.script.now.progress c.play_ticks.new.script.progress
    c.args.out.now.items c.play_ticks.new.out.items c.in-Tick.is c.play_ticks.ensures.printed

pub returns-in-Data-clause-printed : goal.returns-in-Data-clause-printed
returns-in-Data-clause-printed c =
    PrintsOn-line c.play_waiting.result c.args.line
    (Data c.in-Data.imsi) c.args.script.now.progress c.play_waiting.new.script.progress
    c.args.out.now.items c.play_waiting.new.out.items c.in-Data.is c.play_waiting.ensures.printed

pub returns-in-Cancel-clause-printed : goal.returns-in-Cancel-clause-printed
returns-in-Cancel-clause-printed c =
    PrintsOn-line c.play_withdrawal.result c.args.line
    (Cancel c.in-Cancel.imsi) c.args.script.now.progress c.play_withdrawal.new.script.progress
    c.args.out.now.items c.play_withdrawal.new.out.items c.in-Cancel.is c.play_withdrawal.ensures.printed

pub returns-in-Up-clause-plays : goal.returns-in-Up-clause-plays
returns-in-Up-clause-plays c =
    PlaysLine-as c.play_act.result c.args.line (Up c.in-Up.station) c.args.text.now (scene_of c.args.script.now c.args.out.now.items)
    (scene_of c.play_act.new.script c.play_act.new.out.items) c.in-Up.is c.play_act.ensures.plays

pub returns-in-Lost-clause-plays : goal.returns-in-Lost-clause-plays
returns-in-Lost-clause-plays c =
    PlaysLine-as c.play_loss.result c.args.line (Lost c.in-Lost.station) c.args.text.now (scene_of c.args.script.now c.args.out.now.items)
    (scene_of c.play_loss.new.script c.play_loss.new.out.items) c.in-Lost.is c.play_loss.ensures.plays

pub returns-in-In-clause-plays : goal.returns-in-In-clause-plays
returns-in-In-clause-plays c =
    PlaysLine-as c.play_act-in-In.result c.args.line (In c.in-In.station c.in-In.octets) c.args.text.now (scene_of c.args.script.now c.args.out.now.items)
    (scene_of c.play_act-in-In.new.script c.play_act-in-In.new.out.items) c.in-In.is c.play_act-in-In.ensures.plays

pub returns-in-Tick-clause-plays : goal.returns-in-Tick-clause-plays
returns-in-Tick-clause-plays c =
    let done = c.play_ticks in
    let old = scene_of c.args.script.now c.args.out.now.items in
    let new = scene_of done.new.script done.new.out.items in
    PlaysLine-as done.result c.args.line (Tick c.in-Tick.ticks) c.args.text.now old new c.in-Tick.is
    (subst (λ (n : ℕ). OnOk done.result (PlaysTicks n old new)) c.get.ensures.value done.ensures.plays)

pub returns-in-Data-clause-plays : goal.returns-in-Data-clause-plays
returns-in-Data-clause-plays c =
    PlaysLine-as c.play_waiting.result c.args.line (Data c.in-Data.imsi) c.args.text.now (scene_of c.args.script.now c.args.out.now.items)
    (scene_of c.play_waiting.new.script c.play_waiting.new.out.items) c.in-Data.is c.play_waiting.ensures.plays

pub returns-in-Cancel-clause-plays : goal.returns-in-Cancel-clause-plays
returns-in-Cancel-clause-plays c =
    PlaysLine-as c.play_withdrawal.result c.args.line (Cancel c.in-Cancel.imsi) c.args.text.now (scene_of c.args.script.now c.args.out.now.items)
    (scene_of c.play_withdrawal.new.script c.play_withdrawal.new.out.items) c.in-Cancel.is c.play_withdrawal.ensures.plays
