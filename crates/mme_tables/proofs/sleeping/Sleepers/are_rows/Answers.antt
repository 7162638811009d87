use Rattle.std.proofs.Common.{subst}
use Rattle.mme_tables.specs.StrangerRows.{AreRows}
use Rattle.mme_tables.proofs.KeptStrangers.{table_rows}
use Rattle.mme_tables.proofs.sleeping.Sleepers.are_rows.Goals as goal

pub returns : goal.returns
returns c = subst AreRows c.self.view_is (table_rows c.self.inside.slab c.self.inside.places.items c.self.invariant)
