use Rattle.std.proofs.Common.{◌≤◌, length, string_bytes, ◌∙◌, arith}
use Rattle.trace_words.specs.declared.line.Line.TheVariants.{In}
use Rattle.sim_printing.specs.PrintLaws.{Prints-none, ReadsAs-text}
use Rattle.sim_printing.specs.StopLaws.{StopsWith-octets}
use Rattle.sim_printing.proofs.Played.{AfterEvent-octets, IfSent-octets, on_err}
use Rattle.trace_words.specs.Trace.{line_text}
use Rattle.trace_progress.specs.Effects.{in_event}
use Rattle.sim_printing.proofs.Shown.{ShowsEvent-line, ShowsEvent-octets}
use Rattle.sim_printing.proofs.lines.play_in.Goals as goal

pub play_event-requires-clause-says : goal.play_event-requires-clause-says
play_event-requires-clause-says c =
    let short : length (string_bytes c.in_ok-text.text) ≤ 40000 = omega arith in
    ReadsAs-text (In c.args.station c.args.octets.now)
    (string_bytes c.in_ok-text.text) c.as_bytes.result.now c.as_bytes.ensures.value
    (c.in_ok-text.ensures.read short) c.in_ok-text.ensures.unbroken

pub returns-clause-sent : goal.returns-clause-sent
returns-clause-sent c = λ _.
    IfSent-octets c.args.progress.now c.args.station c.args.octets c.in_ok-sent.sent c.in_ok-sent.ensures.sent

pub returns-then-len-gt-LONGEST_LINE-clause-printed : goal.returns-then-len-gt-LONGEST_LINE-clause-printed
returns-then-len-gt-LONGEST_LINE-clause-printed c = (c.requires, Prints-none c.args.progress.now c.args.out.now.items)

pub returns-clause-after : goal.returns-clause-after
returns-clause-after c = λ _.
    AfterEvent-octets c.args.progress.now c.play_event.new.progress c.args.station c.args.octets c.in_ok-sent.ensures.after

pub returns-in_err-sent-clause-stops : goal.returns-in_err-sent-clause-stops
returns-in_err-sent-clause-stops c =
    on_err c.from_residual-in_err-sent.result
    (StopsWith-octets c.args.progress.now c.play_event.new.progress c.args.station c.args.octets c.in_err-sent.ensures.stops)

pub returns-clause-shown : goal.returns-clause-shown
returns-clause-shown c = λ _.
    let progress = c.args.progress.now in
    let before = c.args.out.now.items in
    let after = c.play_event.new.out.items in
    let line = line_text (In c.args.station c.args.octets.now) in
    ShowsEvent-line progress (in_event c.args.station c.args.octets.now) c.as_bytes.result.now line before after
    (c.as_bytes.ensures.value ∙ c.in_ok-text.ensures.text)
    (ShowsEvent-octets progress c.args.station c.args.octets c.as_bytes.result.now before after c.in_ok-sent.ensures.shown)
