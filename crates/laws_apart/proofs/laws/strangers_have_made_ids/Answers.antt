use Rattle.laws_apart.proofs.Turning.{item_claims_made, waits_stay_made}
use Rattle.laws_apart.proofs.laws.strangers_have_made_ids.Goals as goal

pub returns-clause-waits : goal.returns-clause-waits
returns-clause-waits c = waits_stay_made

pub returns-clause-claims : goal.returns-clause-claims
returns-clause-claims c = item_claims_made
