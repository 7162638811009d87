use Rattle.mme_core.proofs.Apart.{events_go_made, ids_begin_apart, ids_stay_apart}
use Rattle.mme_core.proofs.Further.{added_apart, given_apart}
use Rattle.mme_core.proofs.laws.ids_are_apart.Goals as goal

pub returns-clause-begins : goal.returns-clause-begins
returns-clause-begins c = ids_begin_apart c.ids_stay_apart.ensures.begins

pub returns-clause-stays : goal.returns-clause-stays
returns-clause-stays c = ids_stay_apart c.ids_stay_apart.ensures.stays (events_go_made c.octets_go_made.ensures)

pub returns-clause-goes : goal.returns-clause-goes
returns-clause-goes c = events_go_made c.octets_go_made.ensures

pub returns-clause-given : goal.returns-clause-given
returns-clause-given c = given_apart

pub returns-clause-added : goal.returns-clause-added
returns-clause-added c = added_apart
