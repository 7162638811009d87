use Rattle.std.proofs.Common.{◌≡◌, ◌-◌, ◌≤◌, ◌^◌, ◌∙◌, List, ap, subst, sym}
use Rattle.std.specs.Prelude.{slice_get, option_map}
use Rattle.identity_slots.specs.declared.profile.Vector.{Vector}
use Rattle.identity_slots.specs.Spending.{KeptView}
use Rattle.identity_slots.proofs.Windows.{place_small, window_get}
use Rattle.identity_slots.proofs.vectors.KeptVectors.get.Goals as goal
use Rattle.identity_slots.proofs.vectors.KeptVectors.get.Goals.{After-vector_at}

inside : (c : After-vector_at) → option_map (λ v. v.now) c.vector_at.result ≡ slice_get c.self.inside.given c.args.place
inside c =
    let unspent = subst (λ (v : KeptView). v.spent ≤ c.args.place) (sym c.self.view_is) c.requires.unspent in
    c.vector_at.ensures.value
    ∙ ap (λ (vs : List Vector). slice_get vs (c.args.place - c.self.inside.base)) c.as_slice.ensures.value
    ∙ window_get c.self.inside.base c.self.inside.spent c.args.place c.self.inside.given c.self.inside.items.items c.self.invariant unspent

pub returns-clause-value : goal.returns-clause-value
returns-clause-value c =
    inside (goal.at.returns-clause-value c).After-vector_at ∙ ap (λ (v : KeptView). slice_get v.given c.args.place) c.self.view_is

pub returns-clause-bound : goal.returns-clause-bound
returns-clause-bound c =
    place_small _ c.vector_at.result c.self.inside.given c.args.place (2 ^ 63) (inside (goal.at.returns-clause-bound c).After-vector_at)
    c.self.invariant.small
