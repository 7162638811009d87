use Rattle.laws_subscriber.proofs.ConnectionSteps.{connections_come_so}
use Rattle.laws_subscriber.proofs.connections.connections_come_so.Goals as goal

pub returns : goal.returns
returns c = connections_come_so
