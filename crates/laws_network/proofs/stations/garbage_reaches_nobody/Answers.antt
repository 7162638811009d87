use Rattle.laws_network.proofs.Garbage.{garbage_is_as_nothing, garbage_reaches_nobody}
use Rattle.laws_network.proofs.stations.garbage_reaches_nobody.Goals as goal

pub returns-clause-event : goal.returns-clause-event
returns-clause-event c = garbage_reaches_nobody c.decoded_exactly.ensures.spelled

pub returns-clause-run : goal.returns-clause-run
returns-clause-run c = garbage_is_as_nothing c.decoded_exactly.ensures.spelled
