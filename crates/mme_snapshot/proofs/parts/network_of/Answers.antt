use Rattle.std.proofs.Common.{◌≡◌, Option, IfNone, false, refl, sym, subst}
use Rattle.mme_types.specs.declared.network.Network.{Network}
use Rattle.mme_snapshot.specs.Images.{is_label}
use Rattle.mme_snapshot.proofs.Labels.{label_if, no_label}
use Rattle.mme_snapshot.proofs.parts.network_of.Goals as goal

pub returns-in_err-apn-clause-none : goal.returns-in_err-apn-clause-none
returns-in_err-apn-clause-none c =
    subst (λ (o : Option Network). IfNone o (is_label c.args.saved.now.apn.octets.now ≡ false)) (sym c.from_residual.ensures)
    (no_label c.args.saved.now.apn.octets.now (λ l. absurd (cc (c.in_err-apn.ensures.some.1 l))))

pub returns-clause-label : goal.returns-clause-label
returns-clause-label c = label_if c.args.saved.now.apn.octets.now (c.in_ok-apn.ensures.some.0 refl)
