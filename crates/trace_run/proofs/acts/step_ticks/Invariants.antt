use Rattle.std.proofs.Common.{◌≡◌, ℕ, List}
use Rattle.std.specs.Io.KnownBytes.{Appends}
use Rattle.trace_run.proofs.Left.{TicksOn}
use Rattle.trace_run.proofs.Ticks.{Ticking}
use Rattle.trace_run.proofs.acts.step_ticks.Given as goal

abbrev pub invariant-loop-tick : goal.invariant-loop-tick
invariant-loop-tick g l =
    (written : List ℕ) × Appends (g.W.Write.contents l.initial.writer.inner) (g.W.Write.contents l.writer.inner) written
    × Ticking l.initial.mme l._tick l.mme written × (l.writer.failed ≡ l.initial.writer.failed)
    × TicksOn l.initial.mme l._tick l.mme
