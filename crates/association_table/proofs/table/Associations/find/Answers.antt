use Rattle.std.proofs.Common.{sym, ◌∙◌, ap, subst}
use Rattle.std.specs.Prelude.{IsSome, Some, option_map}
use Rattle.slab.specs.Slab.{get}
use Rattle.sorted_list.specs.Ordered.{Rising}
use Rattle.sorted_list.specs.Indexed.{every_at}
use Rattle.sorted_list.specs.Laws.{at_key}
use Rattle.association_table.specs.Table.{Table, association_id, found}
use Rattle.association_table.specs.Kept.{place_id, entry_at, with_id, or_blank}
use Rattle.association_table.proofs.Entries.{rising_entries, found_place, none_some}
use Rattle.association_table.proofs.table.Associations.find.Goals as goal

pub returns-in_err-place-clause-value : goal.returns-in_err-place-clause-value
returns-in_err-place-clause-value c =
    c.from_residual.ensures
    ∙ sym (ap (λ (v : Table). found c.args.id v.entries) (sym c.self.view_is) ∙ found_place c.self.inside.slab c.args.id c.self.inside.by_id.items ∙ ap (option_map (entry_at c.self.inside.slab)) (sym c.find_place.ensures ∙ c.in_err-place.was))

pub returns-in-Some-clause-value : goal.returns-in-Some-clause-value
returns-in-Some-clause-value c = let h = c.in-Some.ensures in let k = at_key place_id c.args.id c.in_ok-place.place c.self.inside.by_id.items (sym c.find_place.ensures ∙ c.in_ok-place.was) in
    ap (λ x. option_map (λ y. with_id c.args.id (or_blank y)) (Some x)) h
    ∙ ap (λ i. Some (with_id i (or_blank (get c.self.inside.slab c.in_ok-place.place.key)))) (sym k)
    ∙ sym (ap (λ (v : Table). found c.args.id v.entries) (sym c.self.view_is) ∙ found_place c.self.inside.slab c.args.id c.self.inside.by_id.items ∙ ap (option_map (entry_at c.self.inside.slab)) (sym c.find_place.ensures ∙ c.in_ok-place.was))

pub returns-in-None-clause-value : goal.returns-in-None-clause-value
returns-in-None-clause-value c =
    let there =
    every_at (λ p. IsSome (get c.self.inside.slab p.key)) place_id c.args.id c.in_ok-place.place c.self.inside.by_id.items
    (sym c.find_place.ensures ∙ c.in_ok-place.was) c.self.invariant.0.held in
    absurd (none_some (get c.self.inside.slab c.in_ok-place.place.key) there (sym c.in-None.ensures))

pub returns-in_err-place-clause-order : goal.returns-in_err-place-clause-order
returns-in_err-place-clause-order c =
    subst (λ (v : Table). Rising association_id v.entries) c.self.view_is
    (rising_entries c.self.inside.slab c.self.inside.by_id.items c.self.invariant.0.rising)

pub returns-in-Some-clause-order : goal.returns-in-Some-clause-order
returns-in-Some-clause-order c =
    subst (λ (v : Table). Rising association_id v.entries) c.self.view_is
    (rising_entries c.self.inside.slab c.self.inside.by_id.items c.self.invariant.0.rising)

pub returns-in-None-clause-order : goal.returns-in-None-clause-order
returns-in-None-clause-order c =
    subst (λ (v : Table). Rising association_id v.entries) c.self.view_is
    (rising_entries c.self.inside.slab c.self.inside.by_id.items c.self.invariant.0.rising)
