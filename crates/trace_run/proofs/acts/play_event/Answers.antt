use Rattle.trace_progress.specs.Effects.{running}
use Rattle.trace_run.proofs.Unrun.{failed-unrun}
use Rattle.trace_run.proofs.acts.play_event.Goals as goal

pub returns-in-Err-clause-write_failed : goal.returns-in-Err-clause-write_failed
returns-in-Err-clause-write_failed g c =
    failed-unrun c.args.writer.now.failed c.args.number (running c.args.progress.now) c.in-Err.fault c.run.new.progress
    c.in-Err.ensures.runs
