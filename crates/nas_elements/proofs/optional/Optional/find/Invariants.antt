use Rattle.std.proofs.Common.{◌≡◌, length, true}
use Rattle.std.specs.Prelude.{is_some}
use Rattle.nas_elements.specs.Optionals.{elements, elements_in, first}
use Rattle.nas_elements.proofs.optional.Optional.find.Given as goal

abbrev pub invariant-loop-rest : goal.invariant-loop-rest
invariant-loop-rest l =
    (is_some (elements l.self-inside.domain l.rest) ≡ true)
    × (first l.iei (elements_in l.self-inside.domain l.rest) ≡ first l.iei l.self)

abbrev pub decreases-loop-rest : goal.decreases-loop-rest
decreases-loop-rest l = length l.rest
