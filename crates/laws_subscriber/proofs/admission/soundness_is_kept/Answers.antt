use Rattle.std.proofs.Common.{refl}
use Rattle.laws_subscriber.proofs.SoundRuns.{stays_sound}
use Rattle.laws_subscriber.proofs.admission.soundness_is_kept.Goals as goal

pub returns-clause-fresh : goal.returns-clause-fresh
returns-clause-fresh c s = record { context = refl; connection = refl; challenge = tt; reachable = tt; repeat = tt }

pub returns-clause-run : goal.returns-clause-run
returns-clause-run c = stays_sound c.accepted_is_fresh.ensures.whole
