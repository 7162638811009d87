use Rattle.std.proofs.Common.{◌≡◌, refl, Some, arith, length}
use Rattle.std.specs.Prelude.{slice_get}
use Rattle.std.proofs.lemmas.Option.{slice_get_read, slice_get_within}
use Rattle.laws_network.specs.Ranges.{VectorInRange}
use Rattle.laws_network.proofs.Each.{at_place, before_next}
use Rattle.laws_network.proofs.provisioned.vectors_are_in_range.Goals as goal

pub loop-vector-preserved : goal.loop-vector-preserved
loop-vector-preserved c =
    let vs = c.args.vectors.now in
    let i = c.loop-vector.vector-index in
    let v = c.vector-item.result in
    let here : slice_get vs i ≡ Some v = slice_get_read vs (length vs) i v refl c.loop-vector-test.true c.vector-item.is in
    λ place w less at. before_next (λ k. slice_get vs k ≡ Some w → VectorInRange w) i place (λ low. c.loop-vector.invariant place w low) (λ there. at_place VectorInRange vs i v w here c.vector_is_in_range.ensures there) less at

pub returns : goal.returns
returns c =
    let vs = c.args.vectors.now in
    let past = c.loop-vector-test.false in
    λ place v at. c.loop-vector.invariant place v (let within = slice_get_within vs place v at in omega (arith, past, within)) at
