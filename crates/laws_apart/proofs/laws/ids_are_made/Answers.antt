use Rattle.laws_apart.proofs.Alone.{ids_stay_made}
use Rattle.laws_apart.proofs.laws.ids_are_made.Goals as goal

pub returns-clause-run : goal.returns-clause-run
returns-clause-run c = ids_stay_made c.connections_come_so.ensures
