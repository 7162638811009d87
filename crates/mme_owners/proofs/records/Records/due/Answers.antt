use Rattle.std.proofs.Common.{◌≡◌, ◌∙◌, ap, subst, IfOk}
use Rattle.mme_tables.specs.Waiting.{due_ids}
use Rattle.mme_owners.specs.Subscribers.{due_slots}
use Rattle.mme_owners.specs.Owners.{RecordsView}
use Rattle.mme_owners.proofs.Owned.{due_is_of_owners, due_strangers, due_subscribers}
use Rattle.mme_owners.proofs.records.Records.due.Goals as goal

pub find_due-requires : goal.find_due-requires
find_due-requires c = due_is_of_owners c.self.inside.strangers.strangers c.self.inside.subscribers.subscribers c.self.inside.timers.running c.self.invariant.waits c.len.ensures.few c.self.invariant.timed

pub returns-clause-strangers : goal.returns-clause-strangers
returns-clause-strangers c =
    let e =
    due_strangers c.self.inside.strangers.strangers c.self.inside.subscribers.subscribers c.self.inside.timers.running c.self.invariant.waits c.self.invariant.timed
    ∙ ap (λ (v : RecordsView). due_ids v.strangers) c.self.view_is in
    subst (λ ids. IfOk c.find_due.result (λ due. due.strangers.items ≡ ids)) e c.find_due.ensures.strangers

pub returns-clause-slots : goal.returns-clause-slots
returns-clause-slots c =
    let e =
    due_subscribers c.self.inside.strangers.strangers c.self.inside.subscribers.subscribers c.self.inside.timers.running c.self.invariant.waits c.self.invariant.timed
    ∙ ap (λ (v : RecordsView). due_slots v.subscribers) c.self.view_is in
    subst (λ ks. IfOk c.find_due.result (λ due. due.slots.items ≡ ks)) e c.find_due.ensures.slots
