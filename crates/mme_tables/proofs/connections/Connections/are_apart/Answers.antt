use Rattle.std.proofs.Common.{subst}
use Rattle.mme_tables.specs.Whereabouts.{ConnectionTable, AreApart}
use Rattle.mme_tables.proofs.ChangedPlaces.{are_apart}
use Rattle.mme_tables.proofs.connections.Connections.are_apart.Goals as goal

pub returns : goal.returns
returns c =
    subst (λ (t : ConnectionTable). AreApart t.whereabouts t.associations) c.self.view_is
    (are_apart c.self.inside.by_slot.items c.self.inside.associations.entries c.self.invariant.map)
