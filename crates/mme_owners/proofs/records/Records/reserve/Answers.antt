use Rattle.std.proofs.Common.{refl}
use Rattle.mme_owners.proofs.Owned.{same_owners}
use Rattle.mme_owners.proofs.records.Records.reserve.Goals as goal

pub invariant_of-self : goal.invariant_of-self
invariant_of-self c = same_owners c.self.inside.timers c.reserve.new.self c.self.inside.strangers c.self.inside.subscribers c.self.inside.subscribers c.reserve.ensures.clock c.reserve.ensures.running refl refl c.self.invariant
