use Rattle.std.proofs.Common.{◌≡◌, ℕ, List, ◌++◌, length, Ok}
use Rattle.trace_progress.specs.Acts.{GrowsBy}
use Rattle.trace_run.specs.Lines.{Feeds}
use Rattle.trace_run.proofs.under_way.LineUnderWay.feed.Given as goal

abbrev pub invariant-loop-rest : goal.invariant-loop-rest
invariant-loop-rest g l =
    (front : List ℕ) × (front ++ l.rest ≡ l.piece)
    × GrowsBy (g.W.Write.contents l.initial.writer.inner) (g.W.Write.contents l.writer.inner)
    (Feeds g.P.PlaysLines.plays l.initial.player l.initial.self front (Ok tt) l.player l.self)
    × (l.writer.failed ≡ l.initial.writer.failed)

abbrev pub decreases-loop-rest : goal.decreases-loop-rest
decreases-loop-rest g l = length l.rest
