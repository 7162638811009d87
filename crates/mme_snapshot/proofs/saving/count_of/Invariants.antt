use Rattle.std.proofs.Common.{◌≤◌, ◌-◌, ◌^◌, ◌+◌}
use Rattle.mme_snapshot.proofs.Counting.{Counted}
use Rattle.mme_snapshot.proofs.saving.count_of.Given as goal

abbrev pub invariant-loop-id : goal.invariant-loop-id
invariant-loop-id l = record {
  counted : Counted l.strangers.strangers l.least l.count;
  few : l.least ≤ 2 ^ 32;
}

abbrev pub decreases-loop-id : goal.decreases-loop-id
decreases-loop-id l = 2 ^ 32 + 1 - l.least
