use Rattle.std.proofs.Common.{◌≡◌, take}
use Rattle.identity_slots.proofs.vectors.history_of.Given as goal

abbrev pub invariant-loop-vector : goal.invariant-loop-vector
invariant-loop-vector l = l.history.items ≡ take l.vector-index l.vectors
