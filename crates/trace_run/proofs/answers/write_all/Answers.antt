use Rattle.std.proofs.Common.{◌+◌, ◌++◌, Err, sym, ap, ◌∙◌, take, arith}
use Rattle.trace_answers.specs.Words.{answers_of, out_text}
use Rattle.trace_run.specs.OctetLaws.{Appends-then, Appends-same}
use Rattle.trace_run.specs.Watching.{failed_after_play}
use Rattle.trace_answers.specs.WordLaws.{answers_of-more}
use Rattle.trace_run.proofs.Answered.{answers_of-front, Puts-after}
use Rattle.trace_run.proofs.answers.write_all.Goals as goal

pub returns-in-Err-clause-put : goal.returns-in-Err-clause-put
returns-in-Err-clause-put g c =
    let held = g.W.Write.contents in
    let i = c.loop-out.out-index in
    let outs = c.args.outs.now in
    let out = c.out-item.result in
    let put = c.in-Err.ensures.put in
    let before = answers_of (take i outs) in (
      before ++ put.0,
      Appends-then (held c.args.writer.now.inner) (held c.loop-out.writer.inner)
          (held c.write_out.new.writer.inner) before put.0 c.loop-out.invariant.put put.1,
      Puts-after (Unit {0}) (Unit {0}) before (out_text out) (answers_of outs) put.0 c.in-Err.fault
          (answers_of-front outs i out (omega arith) c.out-item.is) put.2,
    )

pub returns-in-Err-clause-write_failed : goal.returns-in-Err-clause-write_failed
returns-in-Err-clause-write_failed g c =
    c.in-Err.ensures.write_failed
    ∙ ap (λ failed. failed_after_play {A = Unit {0}} failed (Err c.in-Err.fault)) c.loop-out.invariant.unfailed

pub loop-out-preserved : goal.loop-out-preserved
loop-out-preserved g c =
    let held = g.W.Write.contents in
    let i = c.loop-out.out-index in
    let outs = c.args.outs.now in
    let out = c.out-item.result in
    let put = c.in-Ok.ensures.put in
    let before = answers_of (take i outs) in
    let first = held c.args.writer.now.inner in
    let last = held c.write_out.new.writer.inner in
    record {
      put = Appends-same first last (before ++ out_text out) (answers_of (take (i + 1) outs))
          (sym (answers_of-more outs i out (omega arith) c.out-item.is))
          (Appends-then first (held c.loop-out.writer.inner) last before (out_text out) c.loop-out.invariant.put
          (Appends-same (held c.loop-out.writer.inner) last put.0 (out_text out) put.2 put.1));
      unfailed = c.in-Ok.ensures.write_failed ∙ c.loop-out.invariant.unfailed;
    }
