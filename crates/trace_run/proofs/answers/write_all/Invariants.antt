use Rattle.std.proofs.Common.{◌≡◌, take}
use Rattle.std.specs.Io.KnownBytes.{Appends}
use Rattle.trace_answers.specs.Words.{answers_of}
use Rattle.trace_run.proofs.answers.write_all.Given as goal

abbrev pub invariant-loop-out : goal.invariant-loop-out
invariant-loop-out g l = record {
  put : Appends (g.W.Write.contents l.initial.writer.inner) (g.W.Write.contents l.writer.inner) (answers_of (take l.out-index l.outs));
  unfailed : l.writer.failed ≡ l.initial.writer.failed;
}
