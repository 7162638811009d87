use Rattle.std.proofs.Common.{refl, sym, ap, ◌∙◌}
use Rattle.mme_core.specs.declared.event.Event.TheVariants as event
use Rattle.trace_words.specs.declared.line.Line.TheVariants.{In}
use Rattle.trace_progress.specs.Effects.{effect_of, happened}
use Rattle.trace_run.specs.Watching.{failed_after_play-other}
use Rattle.trace_run.proofs.Heard.{Acts-effect, octets-effect}
use Rattle.trace_run.proofs.Left.{IfErr-line, IfErr-octets}
use Rattle.trace_run.proofs.acts.act_on_line.Goals as goal

pub returns-in-In-clause-acts : goal.returns-in-In-clause-acts
returns-in-In-clause-acts g c =
    let old = c.args.progress.now in
    let line = c.args.line in
    let number = c.in-In.station in
    let slice = c.as_slice.result in
    let acts = c.play_event-in-In.ensures.acts in
    let same = octets-effect old line c.in-In.station number c.in-In.octets slice c.in-In.is refl c.as_slice.ensures in
    (acts.0, acts.1, Acts-effect c.args.number (happened old (event.In number slice)) (effect_of old line) c.play_event-in-In.result c.play_event-in-In.new.progress acts.0 same acts.2)

pub returns-in-Mme-clause-write_failed : goal.returns-in-Mme-clause-write_failed
returns-in-Mme-clause-write_failed g c = failed_after_play-other c.args.writer.now.failed c.start.result c.start.ensures.write

pub returns-in-Sub-clause-write_failed : goal.returns-in-Sub-clause-write_failed
returns-in-Sub-clause-write_failed g c = failed_after_play-other c.args.writer.now.failed c.add.result c.add.ensures.write

pub returns-in-Vec-clause-write_failed : goal.returns-in-Vec-clause-write_failed
returns-in-Vec-clause-write_failed g c = failed_after_play-other c.args.writer.now.failed c.give.result c.give.ensures.write

pub returns-in-In-clause-left : goal.returns-in-In-clause-left
returns-in-In-clause-left g c =
    let old = c.args.progress.now in
    let new = c.play_event-in-In.new.progress in
    let slice = c.as_slice.result in
    let left = IfErr-octets old new c.in-In.station slice c.play_event-in-In.result c.play_event-in-In.ensures.left in
    IfErr-line old new (In c.in-In.station slice.now) c.args.line c.play_event-in-In.result
    (c.in-In.is ∙ ap (λ v. In c.in-In.station v) (sym c.as_slice.ensures)) left
