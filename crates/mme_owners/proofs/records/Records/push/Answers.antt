use Rattle.mme_owners.proofs.Owned.{pushed_owners}
use Rattle.mme_owners.proofs.records.Records.push.Goals as goal

pub invariant_of-self : goal.invariant_of-self
invariant_of-self c = pushed_owners c.push.result c.args.subscriber c.self.inside.timers c.self.inside.strangers c.self.inside.subscribers c.push.new.self c.requires.off c.self.invariant c.push.ensures.clock c.push.ensures.ok c.push.ensures.err
