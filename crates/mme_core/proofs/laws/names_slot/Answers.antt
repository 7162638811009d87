use Rattle.mme_core.proofs.Named.{named_by_id, named_by_identity, named_by_imsi}
use Rattle.mme_core.proofs.laws.names_slot.Goals as goal

pub returns-clause-imsi : goal.returns-clause-imsi
returns-clause-imsi c = named_by_imsi

pub returns-clause-identity : goal.returns-clause-identity
returns-clause-identity c = named_by_identity

pub returns-clause-id : goal.returns-clause-id
returns-clause-id c = named_by_id
