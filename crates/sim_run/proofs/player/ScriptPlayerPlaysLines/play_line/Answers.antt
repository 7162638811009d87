use Rattle.std.proofs.Common.{[], ◌∷◌, ap, ◌∙◌}
use Rattle.trace_words.specs.Kept.{kept_in}
use Rattle.trace_run.specs.OctetLaws.{Appends-nil, Appends-same}
use Rattle.trace_run.specs.Watching.{failed_after_octets}
use Rattle.sim_run.proofs.Simulating.{WritesLine-printed, WritesLine-fault, PrintsScriptLine-place, failed-script_line}
use Rattle.sim_run.proofs.player.ScriptPlayerPlaysLines.play_line.Goals as goal

pub returns-in-Err-clause-played : goal.returns-in-Err-clause-played
returns-in-Err-clause-played g c =
    let kept = kept_in (c.args.text.now ∷ []) in (
      [],
      Appends-nil _,
      (
        WritesLine-fault c.args.number kept c.args.self.now.script.progress c.play_script_line.new.script.progress c.new-out.result.items
            c.play_script_line.new.out.items c.in-Err.fault c.in-Err.ensures.printed,
        c.in-Err.ensures.fault,
        tt,
      ),
    )

pub returns-in-Err-clause-fault : goal.returns-in-Err-clause-fault
returns-in-Err-clause-fault g c =
    PrintsScriptLine-place c.args.number (kept_in (c.args.text.now ∷ [])) c.args.self.now.script.progress
    c.play_script_line.new.script.progress c.new-out.result.items c.play_script_line.new.out.items c.in-Err.fault c.in-Err.ensures.printed

pub returns-clause-played : goal.returns-clause-played
returns-clause-played g c =
    let kept = kept_in (c.args.text.now ∷ []) in
    let out = c.play_script_line.new.out.items in
    let printed =
    WritesLine-printed kept c.args.self.now.script.progress c.play_script_line.new.script.progress c.new-out.result.items out
    c.new-out.ensures.items c.in-Ok.ensures.printed in (
      out,
      Appends-same _ _ _ _ c.as_slice.ensures.value (c.write_whole.ensures.all c.if-not-write_whole.false),
      (printed, c.in-Ok.ensures.fault, c.in-Ok.ensures.acted),
    )

pub returns-in-Err-clause-write_failed : goal.returns-in-Err-clause-write_failed
returns-in-Err-clause-write_failed g c =
    failed-script_line c.args.writer.now.failed c.args.number (kept_in (c.args.text.now ∷ [])) c.args.self.now.script.progress
    c.play_script_line.new.script.progress c.new-out.result.items c.play_script_line.new.out.items c.in-Err.fault c.in-Err.ensures.printed

pub returns-then-not-write_whole-clause-write_failed : goal.returns-then-not-write_whole-clause-write_failed
returns-then-not-write_whole-clause-write_failed g c =
    c.write_whole.ensures.write_failed ∙ ap (failed_after_octets c.args.writer.now.failed) c.if-not-write_whole.true

pub returns-clause-write_failed : goal.returns-clause-write_failed
returns-clause-write_failed g c =
    c.write_whole.ensures.write_failed ∙ ap (failed_after_octets c.args.writer.now.failed) c.if-not-write_whole.false
