use Rattle.sim_printing.proofs.Played.{tick_reads}
use Rattle.std.proofs.Common.{codes, sym}
use Rattle.mme_core.specs.declared.event.Event.TheVariants.{Tick}
use Rattle.trace_words.specs.declared.line.Line.TheVariants as line
use Rattle.trace_words.specs.Trace.{line_text}
use Rattle.sim_printing.proofs.Shown.{tick_text, ShowsEvent-line}
use Rattle.sim_printing.proofs.lines.play_tick.Goals as goal

pub play_event-requires-clause-says : goal.play_event-requires-clause-says
play_event-requires-clause-says c = tick_reads

pub returns-clause-shown : goal.returns-clause-shown
returns-clause-shown c =
    ShowsEvent-line c.args.progress.now Tick (codes "tick 1") (line_text (line.Tick 1)) c.args.out.now.items
    c.play_event.new.out.items (sym tick_text) c.in_ok-sent.ensures.shown
