use Rattle.std.proofs.Common.{◌≡◌, Err, sym, subst}
use Rattle.trace_progress.specs.declared.fault.PlayFault.{PlayFault}
use Rattle.trace_progress.specs.Effects.{effect_of}
use Rattle.trace_run.specs.OneLine.{IsOfLine}
use Rattle.trace_run.specs.Watching.{failed_after_play}
use Rattle.trace_run.proofs.Played.{in_line-place, in_line-unwritten, Acts-place}
use Rattle.trace_run.proofs.player.PlayerPlaysLines.play_line.Goals as goal

pub returns-in-Ok-clause-fault : goal.returns-in-Ok-clause-fault
returns-in-Ok-clause-fault g c =
    let acts = c.act_on_line.ensures.acts in
    Acts-place c.args.number (effect_of c.args.self.now.progress c.in-Ok.line) c.act_on_line.result c.act_on_line.new.progress acts.0 acts.2

pub returns-in-Err-clause-fault : goal.returns-in-Err-clause-fault
returns-in-Err-clause-fault g c =
    subst (λ (v : PlayFault). IsOfLine c.args.number (Err v)) (sym c.fault_in_line.ensures) (in_line-place c.args.number c.in-Err.fault)

pub returns-in-Err-clause-write_failed : goal.returns-in-Err-clause-write_failed
returns-in-Err-clause-write_failed g c =
    let failed = c.args.writer.now.failed in
    subst (λ (v : PlayFault). failed ≡ failed_after_play {A = Unit {0}} failed (Err v)) (sym c.fault_in_line.ensures)
    (in_line-unwritten failed c.args.number c.in-Err.fault)
