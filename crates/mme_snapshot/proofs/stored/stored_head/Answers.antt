use Rattle.std.proofs.Common.{◌∙◌, refl, sym, subst}
use Rattle.mme_types.specs.Network.{IsLabel}
use Rattle.mme_snapshot.proofs.Labels.{label_if}
use Rattle.mme_snapshot.proofs.stored.stored_head.Goals as goal

pub returns-clause-label : goal.returns-clause-label
returns-clause-label c =
    label_if c.as_slice-2.result.now
    (subst IsLabel (c.as_slice.ensures.value ∙ sym c.as_slice-2.ensures.value) (c.in_ok-_label.ensures.some.0 refl))
