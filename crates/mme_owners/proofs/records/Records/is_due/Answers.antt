use Rattle.std.proofs.Common.{◌≡◌, ◌↔◌, false, subst}
use Rattle.mme_owners.specs.Owners.{NobodyIsDue, RecordsView}
use Rattle.mme_owners.proofs.Owned.{due_nobody}
use Rattle.mme_owners.proofs.records.Records.is_due.Goals as goal

pub returns : goal.returns
returns c =
    let told = due_nobody c.self.inside.strangers.strangers c.self.inside.subscribers.subscribers c.self.inside.timers.running c.self.invariant.waits c.self.invariant.timed in
    let own = c.is_due.ensures in
    let here : (c.is_due.result ≡ false) ↔ NobodyIsDue c.self.inside.strangers.strangers c.self.inside.subscribers.subscribers =
    (λ no. told.0 (own.0 no), λ nobody. own.1 (told.1 nobody)) in
    subst (λ (v : RecordsView). (c.is_due.result ≡ false) ↔ NobodyIsDue v.strangers v.subscribers) c.self.view_is here
