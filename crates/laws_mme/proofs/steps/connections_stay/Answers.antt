use Rattle.laws_mme.proofs.Connections.{connections_stay}
use Rattle.laws_mme.proofs.steps.connections_stay.Goals as goal

pub returns : goal.returns
returns c = connections_stay
