use Rattle.std.proofs.Common.{subst, sym, ◌<◌, ℕ}
use Rattle.identity_slots.proofs.Forgetting.{first_next}
use Rattle.identity_slots.proofs.vectors.forget_all.Goals as goal

pub loop-vector-preserved : goal.loop-vector-preserved
loop-vector-preserved c =
    first_next c.loop-vector.vector-index c.deref_mut-vector-items.result.now c.loop-vector.vector-items c.forget.new.self c.vector-item.result c.loop-vector.invariant
    (subst (λ (m : ℕ). c.loop-vector.vector-index < m) (sym c.loop-vector.auto.vector-items) c.loop-vector-test.true) c.forget.ensures
