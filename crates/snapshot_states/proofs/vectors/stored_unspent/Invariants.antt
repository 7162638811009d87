use Rattle.std.proofs.Common.{◌≤◌, ◌+◌, length}
use Rattle.snapshot_states.proofs.vectors.stored_unspent.Given as goal

abbrev pub invariant-loop-unspent : goal.invariant-loop-unspent
invariant-loop-unspent l = l.spent + l.unspent ≤ length l.subscriber.setting.vectors
