use Rattle.std.proofs.Common.{◌≡◌, ◌++◌, replicate, take}
use Rattle.identity_slots.proofs.vectors.GivenVectors.resumed.Given as goal

abbrev pub invariant-loop-vector : goal.invariant-loop-vector
invariant-loop-vector l = l.items.items ≡ replicate l.fn.spent l.fn.husk ++ take l.vector-index l.rest
