use Rattle.std.proofs.Common.{subst}
use Rattle.sorted_list.specs.Ordered.{Rising}
use Rattle.association_table.specs.Table.{Table, association_id}
use Rattle.association_table.proofs.Entries.{rising_entries}
use Rattle.association_table.proofs.table.Associations.listed.Goals as goal

pub returns-in_err-meant-clause-order : goal.returns-in_err-meant-clause-order
returns-in_err-meant-clause-order c =
    subst (λ (v : Table). Rising association_id v.entries) c.self.view_is
    (rising_entries c.self.inside.slab c.self.inside.by_id.items c.self.invariant.0.rising)

pub returns-clause-order : goal.returns-clause-order
returns-clause-order c =
    subst (λ (v : Table). Rising association_id v.entries) c.self.view_is
    (rising_entries c.self.inside.slab c.self.inside.by_id.items c.self.invariant.0.rising)
