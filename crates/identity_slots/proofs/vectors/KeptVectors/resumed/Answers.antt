use Rattle.std.proofs.Common.{◌+◌, ◌<◌, ◌^◌, ◌∙◌, List, ◌++◌, ap, length, replicate, subst, sym}
use Rattle.identity_slots.specs.declared.profile.Vector.{Vector}
use Rattle.identity_slots.proofs.Windows.{window_resumed}
use Rattle.identity_slots.proofs.vectors.KeptVectors.resumed.Goals as goal

pub invariant_of-result : goal.invariant_of-result
invariant_of-result c =
    window_resumed c.args.spent c.args.husk.now c.resumed-given.result c.rest.inside.items.items
    (c.resumed-given.ensures ∙ ap (λ (vs : List Vector). replicate c.args.spent c.args.husk.now ++ vs) (c.as_slice.ensures ∙ sym c.rest.view_is))
    (subst (λ (vs : List Vector). c.args.spent + length vs < 2 ^ 63) (sym c.rest.view_is) c.requires)
