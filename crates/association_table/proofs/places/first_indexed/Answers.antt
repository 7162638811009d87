use Rattle.std.proofs.Common.{sym, ◌∙◌, ap}
use Rattle.sorted_list.specs.Sorted.{lowest_from}
use Rattle.association_table.specs.Kept.{index_rank}
use Rattle.association_table.proofs.Stations.{entry_end, entry_absent, entry_found}
use Rattle.association_table.proofs.places.first_indexed.Goals as goal

pub returns-in_err-entry : goal.returns-in_err-entry
returns-in_err-entry c =
    let key = sym c.paired.ensures in
    c.from_residual.ensures
    ∙ sym (entry_end c.args.group c.args.least c.args.index.now.items (ap (λ k. lowest_from index_rank k c.args.index.now.items) key ∙ sym c.first_from.ensures ∙ c.in_err-entry.was))

pub returns-then-entry-group : goal.returns-then-entry-group
returns-then-entry-group c =
    let key = sym c.paired.ensures in
    sym (entry_absent c.args.group c.args.least c.in_ok-entry.entry c.args.index.now.items c.requires.rising c.requires.small
    (ap (λ k. lowest_from index_rank k c.args.index.now.items) key ∙ sym c.first_from.ensures ∙ c.in_ok-entry.was) c.if-entry-group.true)

pub returns : goal.returns
returns c =
    let key = sym c.paired.ensures in
    sym (entry_found c.args.group c.args.least c.in_ok-entry.entry c.args.index.now.items
    (ap (λ k. lowest_from index_rank k c.args.index.now.items) key ∙ sym c.first_from.ensures ∙ c.in_ok-entry.was) c.if-entry-group.false)
