use Rattle.std.proofs.Common.{◌+◌, ◌-◌, ◌≤◌, length}
use Rattle.sorted_list.specs.Ordered.{place}
use Rattle.sorted_list.specs.Chunks.{head_key}
use Rattle.sorted_list.proofs.finding.home.Given as goal

abbrev pub invariant-loop-low : goal.invariant-loop-low
invariant-loop-low g l = (l.low ≤ place (head_key g.T.Keyed.rank) (l.key + 1) l.chunks) ×
    (place (head_key g.T.Keyed.rank) (l.key + 1) l.chunks ≤ l.high) × (l.high ≤ length l.chunks)

abbrev pub decreases-loop-low : goal.decreases-loop-low
decreases-loop-low g l = l.high - l.low
