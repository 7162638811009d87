use Rattle.std.proofs.Common.{◌≡◌}
use Rattle.identity_slots.specs.Forgetting.{first_forgotten}
use Rattle.identity_slots.proofs.vectors.forget_all.Given as goal

abbrev pub invariant-loop-vector : goal.invariant-loop-vector
invariant-loop-vector l = l.vector-items ≡ first_forgotten l.vector-index l.initial.vector-items
