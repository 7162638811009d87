use Rattle.laws_subscriber.proofs.ProofRuns.{registered_by_proof}
use Rattle.laws_subscriber.proofs.admission.registered_by_proof.Goals as goal

pub returns : goal.returns
returns c = registered_by_proof c.accepted_is_fresh.ensures.whole (λ xs ys same. (c.same_is_equal.ensures xs ys).0 same)
