use Rattle.std.proofs.Common.{◌≡◌, [], ap, sym, ◌∙◌, Some, arith}
use Rattle.std.specs.Prelude.{slice_get}
use Rattle.std.proofs.lemmas.Option.{get_or_from_slice_get, slice_get_within}
use Rattle.identity_slots.specs.Provisioned.{vectors_at}
use Rattle.laws_network.specs.Ranges.{ProfileInRange, VectorInRange}
use Rattle.laws_network.proofs.Each.{at_place, before_next, vector_within}
use Rattle.laws_network.proofs.provisioned.provisioned_is_in_range.Goals as goal

pub loop-place-preserved : goal.loop-place-preserved
loop-place-preserved c =
    let p = c.args.provision.now in
    let n = c.loop-place.place in
    let slot : c.slot_of-slot.result ≡ n = c.slot_of-slot.ensures in
    let profile : slice_get p.profiles n ≡ Some c.profile.result.now = ap (slice_get p.profiles) (sym slot) ∙ c.profile.ensures in
    let vectors : vectors_at n p.vectors ≡ c.vectors.result.now =
    get_or_from_slice_get p.vectors n c.vectors.result.now [] (ap (slice_get p.vectors) (sym slot) ∙ c.vectors.ensures.value) in
    record {
      profiles = λ k x less at. before_next (λ k. slice_get p.profiles k ≡ Some x → ProfileInRange x) n k (λ low. c.loop-place.invariant.profiles k x low)
          (λ there. at_place ProfileInRange p.profiles n c.profile.result.now x profile c.profile_is_in_range.ensures there) less at;
      vectors = λ k place v less at. before_next (λ k. slice_get (vectors_at k p.vectors) place ≡ Some v → VectorInRange v) n k (λ low. c.loop-place.invariant.vectors k place v low)
          (λ there. c.vectors_are_in_range.ensures place v (ap (λ vs. slice_get vs place) (sym vectors) ∙ there)) less at;
    }

pub returns : goal.returns
returns c =
    let p = c.args.provision.now in
    let len = c.len-place-end.ensures in
    let past = c.loop-place-test.false in
    record {
      network = c.network_is_in_range.ensures;
      few = len.few;
      profiles = λ k x at. c.loop-place.invariant.profiles k x (let within = slice_get_within p.profiles k x at in omega (arith, past, within, len.len)) at;
      vectors = λ k place v at. c.loop-place.invariant.vectors k place v (let within = vector_within p.vectors k place v at in omega (arith, past, within, len.len, len.vectors)) at;
    }
