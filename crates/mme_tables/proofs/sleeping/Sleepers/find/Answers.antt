use Rattle.std.proofs.Common.{sym, ◌∙◌, ap}
use Rattle.std.specs.Prelude.{option_map}
use Rattle.mme_tables.specs.KeptStrangers.{row_at}
use Rattle.mme_tables.specs.StrangerRows.{Row, sleeper_at}
use Rattle.mme_tables.proofs.KeptStrangers.{at_rows, at_place}
use Rattle.mme_tables.proofs.sleeping.Sleepers.find.Goals as goal

pub returns-in_err-place : goal.returns-in_err-place
returns-in_err-place c =
    ap (option_map (λ s. s.now)) c.from_residual.ensures
    ∙ sym (ap (sleeper_at c.args.id) (sym c.self.view_is) ∙ ap (option_map (λ (r : Row). r.sleeper)) (at_rows c.self.inside.slab c.args.id c.self.inside.places.items ∙ ap (option_map (row_at c.self.inside.slab)) (sym c.find_place.ensures ∙ c.in_err-place.was)))

pub returns : goal.returns
returns c =
    let there =
    at_place c.self.inside.slab c.args.id c.in_ok-place.place c.self.inside.places.items c.self.invariant
    (sym c.find_place.ensures ∙ c.in_ok-place.was) in
    c.get.ensures ∙ there
    ∙ sym (ap (sleeper_at c.args.id) (sym c.self.view_is) ∙ ap (option_map (λ (r : Row). r.sleeper)) (at_rows c.self.inside.slab c.args.id c.self.inside.places.items ∙ ap (option_map (row_at c.self.inside.slab)) (sym c.find_place.ensures ∙ c.in_ok-place.was)))
