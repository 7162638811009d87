use Rattle.laws_mme.proofs.IdRuns.{begins_apart, items_claim_made}
use Rattle.laws_mme.proofs.ids.ids_of_an_mme_are_apart.Goals as goal

pub returns-clause-begins : goal.returns-clause-begins
returns-clause-begins c = begins_apart c.ids_are_apart.ensures.begins

pub returns-clause-stays : goal.returns-clause-stays
returns-clause-stays c = c.ids_are_apart.ensures.stays

pub returns-clause-claims : goal.returns-clause-claims
returns-clause-claims c =
    items_claim_made c.ids_are_apart.ensures.goes c.strangers_have_made_ids.ensures.waits c.strangers_have_made_ids.ensures.claims
