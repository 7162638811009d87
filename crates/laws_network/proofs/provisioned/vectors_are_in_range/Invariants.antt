use Rattle.std.proofs.Common.{◌≡◌, ℕ, ◌<◌, Some}
use Rattle.std.specs.Prelude.{slice_get}
use Rattle.identity_slots.specs.declared.profile.Vector.{Vector}
use Rattle.laws_network.specs.Ranges.{VectorInRange}
use Rattle.laws_network.proofs.provisioned.vectors_are_in_range.Given as goal

abbrev pub invariant-loop-vector : goal.invariant-loop-vector
invariant-loop-vector l = (place : ℕ) (v : Vector) → place < l.vector-index → slice_get l.vectors place ≡ Some v → VectorInRange v
