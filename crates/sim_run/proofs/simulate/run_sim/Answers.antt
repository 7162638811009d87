use Rattle.std.proofs.Common.{sym, ap, ◌∙◌}
use Rattle.trace_run.specs.Watching.{failed_after_play, IsErrOf-failed}
use Rattle.sim_run.proofs.Simulating.{SimTells-each}
use Rattle.sim_run.proofs.simulate.run_sim.Goals as goal

pub returns-clause-simulated : goal.returns-clause-simulated
returns-clause-simulated g c =
    let ran = c.play_lines.ensures.played in
    let first = c.new-player.result in
    (ran.0, ran.1, ran.2, ran.3, SimTells-each first c.play_lines.new.player ran.0 ran.1 c.new-player.ensures.progress c.new-player.ensures.acted c.play_lines.result ran.4, ran.5)

pub returns-clause-write : goal.returns-clause-write
returns-clause-write g c = λ told.
    c.play_lines.ensures.write_failed ∙ ap (failed_after_play c.args.writer.now.failed) told

pub returns-clause-write_failed : goal.returns-clause-write_failed
returns-clause-write_failed g c = λ was is.
    IsErrOf-failed c.args.writer.now.failed c.play_lines.result was (sym c.play_lines.ensures.write_failed ∙ is)
