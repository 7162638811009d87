use Rattle.mme_types.proofs.Labels.{label_utf8}
use Rattle.mme_types.proofs.network.Apn.try_new.Goals as goal

pub returns-in_default-clause-some : goal.returns-in_default-clause-some
returns-in_default-clause-some c =
    (λ h. absurd (cc h), λ label. absurd (c.in_default.ensures.cases.0 (label_utf8 c.args.label.now label.2)))
