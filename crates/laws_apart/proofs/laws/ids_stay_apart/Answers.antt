use Rattle.laws_apart.proofs.Apart.{begins_apart, stays_apart}
use Rattle.laws_apart.proofs.laws.ids_stay_apart.Goals as goal

pub returns-clause-begins : goal.returns-clause-begins
returns-clause-begins c = begins_apart

pub returns-clause-stays : goal.returns-clause-stays
returns-clause-stays c = stays_apart c.connections_come_so.ensures
