use Rattle.std.proofs.Common.{sym, ap, ◌∙◌}
use Rattle.trace_run.specs.Watching.{failed_after_play, IsErrOf-failed}
use Rattle.trace_run.proofs.Played.{WritesFor-each}
use Rattle.trace_run.proofs.play.run_play.Goals as goal

pub returns-clause-played : goal.returns-clause-played
returns-clause-played g c =
    let ran = c.play_lines.ensures.played in
    let first = c.new-player.result in
    (ran.0, ran.1, ran.2, ran.3, WritesFor-each first c.play_lines.new.player ran.0 ran.1 c.new-player.ensures c.play_lines.result ran.4, ran.5)

pub returns-clause-write : goal.returns-clause-write
returns-clause-write g c = λ told.
    c.play_lines.ensures.write_failed ∙ ap (failed_after_play c.args.writer.now.failed) told

pub returns-clause-write_failed : goal.returns-clause-write_failed
returns-clause-write_failed g c = λ was is.
    IsErrOf-failed c.args.writer.now.failed c.play_lines.result was (sym c.play_lines.ensures.write_failed ∙ is)
