use Rattle.laws_subscriber.proofs.ProofRuns.{keys_by_proof}
use Rattle.laws_subscriber.proofs.SoundRuns.{keys_go_to_the_proved}
use Rattle.laws_subscriber.proofs.admission.keys_go_to_the_proved.Goals as goal

pub returns-clause-each : goal.returns-clause-each
returns-clause-each c = keys_go_to_the_proved c.accepted_is_fresh.ensures.whole c.what_is_encoded.ensures.decoded

pub returns-clause-run : goal.returns-clause-run
returns-clause-run c =
    keys_by_proof c.accepted_is_fresh.ensures.whole c.what_is_encoded.ensures.decoded
    (λ xs ys same. (c.same_is_equal.ensures xs ys).0 same)
