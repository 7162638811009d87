use Rattle.mme_core.proofs.Exchange.{exchanges}
use Rattle.mme_core.proofs.laws.exchanges.Goals as goal

pub returns : goal.returns
returns c = exchanges
