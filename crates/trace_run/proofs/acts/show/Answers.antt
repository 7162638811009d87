use Rattle.std.proofs.Common.{sym, ◌∙◌}
use Rattle.trace_progress.specs.Effects.{running}
use Rattle.trace_run.proofs.Left.{IfErr-shown}
use Rattle.trace_run.proofs.Unrun.{failed-unrun}
use Rattle.trace_run.proofs.acts.show.Goals as goal

pub returns-in-Err-clause-write_failed : goal.returns-in-Err-clause-write_failed
returns-in-Err-clause-write_failed g c =
    failed-unrun c.args.writer.now.failed c.args.number (running c.args.progress.now) c.in-Err.fault c.run.new.progress
    c.in-Err.ensures.runs

pub returns-clause-left : goal.returns-clause-left
returns-clause-left g c =
    let acts = c.show_states.ensures.acts in
    let runs = rw c.in-Running.is at c.in-Ok.ensures.runs in
    IfErr-shown c.args.number c.args.progress.now c.in-Running.mme c.args.imsi acts.0 c.show_states.result
    (sym c.is_missing.ensures ∙ c.if-is_missing.false) runs acts.2
