use Rattle.std.proofs.Common.{ap, subst}
use Rattle.mme_owners.specs.Given.{TakesOneVector}
use Rattle.mme_owners.specs.Owners.{RecordsView}
use Rattle.mme_owners.proofs.Given.{given_owners}
use Rattle.mme_owners.proofs.records.Records.give.Goals as goal

pub invariant_of-self : goal.invariant_of-self
invariant_of-self c =
    given_owners c.give.result c.args.slot c.args.vector c.self.inside.timers c.self.inside.strangers c.self.inside.subscribers c.give.new.self
    c.give.ensures.takes c.give.ensures.clock c.self.invariant

pub returns-clause-takes : goal.returns-clause-takes
returns-clause-takes c =
    subst (λ (v : RecordsView). TakesOneVector c.args.slot c.args.vector v.subscribers c.give.result c.give.new.self.subscribers) c.self.view_is
    c.give.ensures.takes

pub returns-clause-rest : goal.returns-clause-rest
returns-clause-rest c = ap (λ (v : RecordsView). record v { subscribers = c.give.new.self.subscribers }) c.self.view_is
