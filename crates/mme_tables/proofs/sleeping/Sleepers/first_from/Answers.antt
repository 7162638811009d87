use Rattle.std.proofs.Common.{sym, ◌∙◌, ap}
use Rattle.std.specs.Prelude.{option_map}
use Rattle.sorted_list.specs.Sorted.{lowest_from}
use Rattle.mme_tables.specs.KeptStrangers.{row_at}
use Rattle.mme_tables.specs.StrangerRows.{row_id}
use Rattle.mme_tables.proofs.KeptStrangers.{lowest_rows}
use Rattle.mme_tables.proofs.sleeping.Sleepers.first_from.Goals as goal

pub returns-in_err-place : goal.returns-in_err-place
returns-in_err-place c =
    c.from_residual.ensures
    ∙ sym (ap (λ rs. option_map row_id (lowest_from row_id c.args.least rs)) (sym c.self.view_is)
    ∙ ap (option_map row_id) (lowest_rows c.self.inside.slab c.args.least c.self.inside.places.items ∙ ap (option_map (row_at c.self.inside.slab)) (sym c.first_place.ensures ∙ c.in_err-place.was)))

pub returns : goal.returns
returns c =
    sym (ap (λ rs. option_map row_id (lowest_from row_id c.args.least rs)) (sym c.self.view_is)
    ∙ ap (option_map row_id) (lowest_rows c.self.inside.slab c.args.least c.self.inside.places.items ∙ ap (option_map (row_at c.self.inside.slab)) (sym c.first_place.ensures ∙ c.in_ok-place.was)))
