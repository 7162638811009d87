use Rattle.laws_subscriber.proofs.SoundRuns.{sends_in_order, sends_marked}
use Rattle.laws_subscriber.proofs.admission.protected_forms_are_marked.Goals as goal

pub returns-clause-each : goal.returns-clause-each
returns-clause-each c = sends_marked c.accepted_is_fresh.ensures.whole c.what_is_encoded.ensures.decoded

pub returns-clause-order : goal.returns-clause-order
returns-clause-order c = sends_in_order c.accepted_is_fresh.ensures.whole c.what_is_encoded.ensures.decoded
