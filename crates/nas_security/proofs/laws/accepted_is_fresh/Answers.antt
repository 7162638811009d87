use Rattle.nas_security.proofs.Accepted.{fresh, short_fresh}
use Rattle.nas_security.proofs.laws.accepted_is_fresh.Goals as goal

pub returns-clause-whole : goal.returns-clause-whole
returns-clause-whole c = fresh c.same_is_equal.ensures

pub returns-clause-short : goal.returns-clause-short
returns-clause-short c = short_fresh
