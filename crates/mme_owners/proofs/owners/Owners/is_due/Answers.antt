use Rattle.std.proofs.Common.{◌≡◌, ◌↔◌, false, subst}
use Rattle.mme_owners.specs.Owners.{NobodyIsDue, OwnersView}
use Rattle.mme_owners.proofs.owners.Owners.is_due.Goals as goal

pub returns : goal.returns
returns c =
    subst (λ (v : OwnersView). (c.is_due.result ≡ false) ↔ NobodyIsDue v.strangers v.subscribers) c.self.view_is c.is_due.ensures
