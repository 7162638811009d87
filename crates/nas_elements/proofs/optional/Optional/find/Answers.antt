use Rattle.std.proofs.Common.{◌≡◌, sym, ap, ◌∙◌, arith, true}
use Rattle.std.specs.Prelude.{is_some}
use Rattle.nas_elements.specs.Optionals.{elements, elements_in, first}
use Rattle.nas_elements.specs.ElementLaws.{never_broken, shorter, still, in_step, nothing_left, first_here, first_later}
use Rattle.nas_elements.proofs.optional.Optional.find.Goals as goal

pub returns-in_default : goal.returns-in_default
returns-in_default c =
    absurd (never_broken c.self.inside.domain c.loop-rest.rest.now c.loop-rest.invariant.0 (omega arith) (sym c.in_default.ensures))

pub loop-rest-smaller : goal.loop-rest-smaller
loop-rest-smaller c = shorter c.self.inside.domain c.loop-rest.rest.now c.in-Some.after.now _ (sym c.in-Some.ensures)

pub loop-rest-preserved : goal.loop-rest-preserved
loop-rest-preserved c =
    let valid : is_some (elements c.self.inside.domain c.in-Some.after.now) ≡ true =
    sym (still c.self.inside.domain c.loop-rest.rest.now c.in-Some.after.now _ (sym c.in-Some.ensures)) ∙ c.loop-rest.invariant.0 in
    let here = in_step c.self.inside.domain c.loop-rest.rest.now c.in-Some.after.now _ (sym c.in-Some.ensures) valid in
    (valid, sym (first_later c.args.iei _ _ c.if-element-iei.false) ∙ sym (ap (first c.args.iei) here) ∙ c.loop-rest.invariant.1)

pub returns-then-element-iei : goal.returns-then-element-iei
returns-then-element-iei c =
    let valid : is_some (elements c.self.inside.domain c.in-Some.after.now) ≡ true =
    sym (still c.self.inside.domain c.loop-rest.rest.now c.in-Some.after.now _ (sym c.in-Some.ensures)) ∙ c.loop-rest.invariant.0 in
    let here = in_step c.self.inside.domain c.loop-rest.rest.now c.in-Some.after.now _ (sym c.in-Some.ensures) valid in
    sym (first_here c.args.iei _ (elements_in c.self.inside.domain c.in-Some.after.now) c.if-element-iei.true)
    ∙ sym (ap (first c.args.iei) here) ∙ c.loop-rest.invariant.1

pub returns : goal.returns
returns c =
    sym (ap (first c.args.iei) (nothing_left c.self.inside.domain c.loop-rest.rest.now (omega arith))) ∙ c.loop-rest.invariant.1
