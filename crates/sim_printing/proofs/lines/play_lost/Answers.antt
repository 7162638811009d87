use Rattle.std.proofs.Common.{string_bytes, ◌∙◌}
use Rattle.trace_words.specs.declared.line.Line.TheVariants.{Lost}
use Rattle.sim_printing.specs.PrintLaws.{ReadsAs-text}
use Rattle.mme_core.specs.declared.event.Event.TheVariants as event
use Rattle.trace_words.specs.Trace.{line_text}
use Rattle.sim_printing.proofs.Shown.{ShowsEvent-line}
use Rattle.sim_printing.proofs.lines.play_lost.Goals as goal

pub play_event-requires-clause-says : goal.play_event-requires-clause-says
play_event-requires-clause-says c =
    ReadsAs-text (Lost c.args.station) (string_bytes c.in_ok-text.text) c.as_bytes.result.now c.as_bytes.ensures.value c.in_ok-text.ensures.read c.in_ok-text.ensures.unbroken

pub returns-clause-shown : goal.returns-clause-shown
returns-clause-shown c =
    let line = line_text (Lost c.args.station) in
    ShowsEvent-line c.args.progress.now (event.Lost c.args.station) c.as_bytes.result.now line c.args.out.now.items
    c.play_event.new.out.items (c.as_bytes.ensures.value ∙ c.in_ok-text.ensures.text) c.in_ok-sent.ensures.shown
