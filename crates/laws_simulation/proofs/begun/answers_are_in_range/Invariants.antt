use Rattle.std.proofs.Common.{◌≡◌, ℕ, ◌<◌, Some}
use Rattle.std.specs.Prelude.{slice_get}
use Rattle.identity_slots.specs.declared.profile.Vector.{Vector}
use Rattle.laws_simulation.specs.PhoneRanges.{AnswerInRange}
use Rattle.laws_simulation.proofs.begun.answers_are_in_range.Given as goal

abbrev pub invariant-loop-vector : goal.invariant-loop-vector
invariant-loop-vector l = (place : ℕ) (v : Vector) → place < l.vector-index → slice_get l.vectors place ≡ Some v → AnswerInRange v
