use Rattle.std.proofs.Common.{Some, None, Err, ◌∙◌, ap}
use Rattle.std.proofs.lemmas.Result.{IfErr-weaker, IfOk-weaker, err_from_is_err_and}
use Rattle.mme_snapshot.specs.declared.fault.RestoreFault.{RestoreFault}
use Rattle.mme_snapshot.proofs.Limits.{refused_so, restored_so}
use Rattle.mme_snapshot.proofs.Versions.{no_version_so, not_memory, other_version_so, this_version_so}
use Rattle.mme_snapshot.proofs.restoring.restore.Goals as goal

pub returns-in_err-read_part-clause-refused : goal.returns-in_err-read_part-clause-refused
returns-in_err-read_part-clause-refused c =
    let p = err_from_is_err_and c.from_residual.result c.from_residual.ensures.1 in
    rw (p.1, p.2) (λ known other.
    no_version_so None c.args.octets.now c.new-reader.result c.new-reader.ensures c.in_err-read_part.field-0.0
    (c.in_err-read_part.ensures.refused known))

pub returns-in_err-read_part-clause-work : goal.returns-in_err-read_part-clause-work
returns-in_err-read_part-clause-work c =
    let p = err_from_is_err_and c.from_residual.result c.from_residual.ensures.1 in
    rw (p.1, p.2) (λ work.
    no_version_so (Some c.args.work) c.args.octets.now c.new-reader.result c.new-reader.ensures c.in_err-read_part.field-0.0
    (c.in_err-read_part.ensures.refused (not_memory c.in_err-read_part.field-0.0 work))
    ∙ ap (λ (f : RestoreFault). Err f) work)

pub returns-then-version-ne-VERSION-clause-refused : goal.returns-then-version-ne-VERSION-clause-refused
returns-then-version-ne-VERSION-clause-refused c = λ known other.
    other_version_so None c.args.octets.now c.new-reader.result c.new-reader.ensures c.in_ok-read_part.field-0 c.get-version.result
    c.read_part.new.reader c.in_ok-read_part.ensures.ok c.get-version.ensures.value c.if-version-ne-VERSION.true

pub returns-clause-ok : goal.returns-clause-ok
returns-clause-ok c =
    let this = this_version_so (Some c.args.work) c.args.octets.now c.new-reader.result c.new-reader.ensures c.in_ok-read_part.field-0
    c.get-version.result c.read_part.new.reader c.in_ok-read_part.ensures.ok c.get-version.ensures.value c.if-version-ne-VERSION.false in
    IfOk-weaker c.read_body.result _ _ (λ m h. restored_so c.args.work c.args.octets.now m (this ∙ h)) c.read_body.ensures.ok

pub returns-clause-within : goal.returns-clause-within
returns-clause-within c =
    let this = this_version_so (Some c.args.work) c.args.octets.now c.new-reader.result c.new-reader.ensures c.in_ok-read_part.field-0
    c.get-version.result c.read_part.new.reader c.in_ok-read_part.ensures.ok c.get-version.ensures.value c.if-version-ne-VERSION.false in
    IfOk-weaker c.read_body.result _ _ (λ m h. this ∙ h) c.read_body.ensures.ok

pub returns-clause-refused : goal.returns-clause-refused
returns-clause-refused c =
    let this = this_version_so (Some c.args.work) c.args.octets.now c.new-reader.result c.new-reader.ensures c.in_ok-read_part.field-0
    c.get-version.result c.read_part.new.reader c.in_ok-read_part.ensures.ok c.get-version.ensures.value c.if-version-ne-VERSION.false in
    IfErr-weaker c.read_body.result _ _ (λ fault h known other. refused_so c.args.work c.args.octets.now fault (this ∙ h known) other)
    c.read_body.ensures.refused

pub returns-clause-work : goal.returns-clause-work
returns-clause-work c =
    let this = this_version_so (Some c.args.work) c.args.octets.now c.new-reader.result c.new-reader.ensures c.in_ok-read_part.field-0
    c.get-version.result c.read_part.new.reader c.in_ok-read_part.ensures.ok c.get-version.ensures.value c.if-version-ne-VERSION.false in
    IfErr-weaker c.read_body.result _ _ (λ fault h work. this ∙ h (not_memory fault work) ∙ ap (λ (f : RestoreFault). Err f) work)
    c.read_body.ensures.refused
