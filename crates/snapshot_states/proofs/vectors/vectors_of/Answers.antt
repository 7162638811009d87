use Rattle.std.proofs.Common.{◌≡◌, ◌<◌, List, length, map, false, subst, arith}
use Rattle.std.specs.List.{list_all}
use Rattle.snapshot_formats.specs.Subscribers.{typed_saved_vector}
use Rattle.snapshot_formats.specs.declared.subscriber.SavedVector.{SavedVector}
use Rattle.snapshot_states.specs.Fit.{fits_vector}
use Rattle.snapshot_states.proofs.Failing.{one_fails}
use Rattle.snapshot_states.proofs.vectors.vectors_of.Goals as goal

pub returns-in_default-clause-unfit : goal.returns-in_default-clause-unfit
returns-in_default-clause-unfit c =
    let all = c.as_slice-saved-items.result.now in
    let within : c.loop-saved.saved-index < length all = let t = c.loop-saved-test.true in omega (arith, t) in
    subst (λ (vs : List SavedVector). list_all fits_vector (map typed_saved_vector vs) ≡ false) c.as_slice-saved-items.ensures
    (one_fails fits_vector typed_saved_vector all c.loop-saved.saved-index c.saved-item.result within
    (subst (λ (v : SavedVector). fits_vector (typed_saved_vector v) ≡ false) c.saved-item.is c.in_default.ensures.unfit))
