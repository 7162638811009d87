use Rattle.std.proofs.Common.{◌<◌, length, sym, subst}
use Rattle.identity_slots.specs.Ids.{slots}
use Rattle.mme_tables.specs.Whereabouts.{ConnectionTable}
use Rattle.mme_tables.proofs.ChangedPlaces.{pushed}
use Rattle.mme_tables.proofs.connections.Connections.push.Goals as goal

pub invariant_of-self-2 : goal.invariant_of-self-2
invariant_of-self-2 c =
    let less = subst (λ (t : ConnectionTable). length t.whereabouts < slots) (sym c.self.view_is) c.requires in
    pushed c.self.inside.by_slot.items c.push.new.self.items c.self.inside.associations.entries c.self.inside.paged.items less
    c.in_ok-push.ensures.items c.self.invariant
