use Rattle.std.proofs.Common.{◌≡◌, ◌+◌, ◌*◌, ◌≤◌}
use Rattle.trace_run.proofs.Running.{Running}
use Rattle.trace_run.proofs.lines.play_lines.Given as goal

abbrev pub invariant-loop-turn : goal.invariant-loop-turn
invariant-loop-turn g l = record {
  running : Running g.P.PlaysLines.plays l.initial.player (g.R.Read.remaining l.initial.reader.inner) (g.R.Read.remaining l.reader.inner)
      (g.W.Write.contents l.initial.writer.inner) (g.W.Write.contents l.writer.inner) l.player l.line;
  short : l.line.number ≤ 1 + 65536 * l.turn;
  calls : l.initial.reader.calls ≡ 0 → l.reader.calls ≡ l.turn;
  unfailed : l.writer.failed ≡ l.initial.writer.failed;
  unfailed_read : l.reader.failed ≡ l.initial.reader.failed;
}
