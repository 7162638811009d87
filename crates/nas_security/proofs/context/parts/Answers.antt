use Rattle.std.proofs.Common.{◌≡◌, ◌≤◌, Some, refl, sym, ap, ◌∙◌, arith, length}
use Rattle.nas_messages.specs.Protection.{seen_split, split, unlent}
use Rattle.nas_security.proofs.Parts.{authenticated, long, rest_of}
use Rattle.nas_security.proofs.context.parts.Goals as goal

pub slice_bounds-result-count : goal.slice_bounds-result-count
slice_bounds-result-count c =
    omega (arith, long c.args.octets.now (unlent c.in_ok-protected.protected) c.in_ok-protected.ensures.form)

pub slice_bounds-result-start : goal.slice_bounds-result-start
slice_bounds-result-start c =
    let enough : 6 ≤ length c.args.octets.now =
    long c.args.octets.now (unlent c.in_ok-protected.protected) c.in_ok-protected.ensures.form in
    omega arith

pub returns : goal.returns
returns c =
    let e : split c.args.octets.now ≡ Some (unlent c.in_ok-protected.protected) =
    sym c.split_protected.ensures.value ∙ ap seen_split c.in_ok-protected.was in
    let rest = rest_of c.args.octets.now 5 in
    let content = authenticated c.args.octets.now (unlent c.in_ok-protected.protected) c.in_ok-protected.ensures.form in
    rw (e, rest, content) refl
