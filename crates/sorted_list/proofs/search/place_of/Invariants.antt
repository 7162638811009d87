use Rattle.std.proofs.Common.{◌-◌, ◌≤◌, length}
use Rattle.sorted_list.specs.Ordered.{place}
use Rattle.sorted_list.proofs.search.place_of.Given as goal

abbrev pub invariant-loop-low : goal.invariant-loop-low
invariant-loop-low g l = (l.low ≤ place g.T.Keyed.rank l.key l.items) × (place g.T.Keyed.rank l.key l.items ≤ l.high) ×
    (l.high ≤ length l.items)

abbrev pub decreases-loop-low : goal.decreases-loop-low
decreases-loop-low g l = l.high - l.low
