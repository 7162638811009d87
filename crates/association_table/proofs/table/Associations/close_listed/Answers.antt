use Rattle.std.proofs.Common.{◌∙◌, ap, subst}
use Rattle.sorted_list.specs.Ordered.{Rising}
use Rattle.association_table.specs.Table.{Table, association_id}
use Rattle.association_table.specs.Listing.{is_listed}
use Rattle.association_table.specs.Gathering.{closed_all}
use Rattle.association_table.proofs.Entries.{rising_entries}
use Rattle.association_table.proofs.Matched.{closed_filter}
use Rattle.association_table.proofs.table.Associations.close_listed.Goals as goal

pub returns-clause-entries : goal.returns-clause-entries
returns-clause-entries c =
    let es = c.args.self.now.entries in
    let order =
    subst (λ (v : Table). Rising association_id v.entries) c.self.view_is
    (rising_entries c.self.inside.slab c.self.inside.by_id.items c.self.invariant.0.rising) in
    c.close_all.ensures.entries ∙ ap (λ gs. closed_all gs es) c.in_ok-gathered.ensures
    ∙ closed_filter (is_listed c.args.station c.args.items.now) es order

pub returns-in_err-gathered-clause-order : goal.returns-in_err-gathered-clause-order
returns-in_err-gathered-clause-order c =
    subst (λ (v : Table). Rising association_id v.entries) c.self.view_is
    (rising_entries c.self.inside.slab c.self.inside.by_id.items c.self.invariant.0.rising)

pub returns-in_err-listed-clause-order : goal.returns-in_err-listed-clause-order
returns-in_err-listed-clause-order c =
    subst (λ (v : Table). Rising association_id v.entries) c.self.view_is
    (rising_entries c.self.inside.slab c.self.inside.by_id.items c.self.invariant.0.rising)

pub returns-clause-order : goal.returns-clause-order
returns-clause-order c =
    subst (λ (v : Table). Rising association_id v.entries) c.self.view_is
    (rising_entries c.self.inside.slab c.self.inside.by_id.items c.self.invariant.0.rising)
