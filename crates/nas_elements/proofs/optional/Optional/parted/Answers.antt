use Rattle.std.proofs.Common.{sym, ◌∙◌, arith}
use Rattle.nas_elements.specs.Optionals.{elements}
use Rattle.nas_elements.specs.ElementLaws.{broken_all, shorter, still, done, some_unwrapped}
use Rattle.nas_elements.proofs.optional.Optional.parted.Goals as goal

pub returns-in_default : goal.returns-in_default
returns-in_default c =
    sym
    (broken_all c.args.domain c.loop-rest.rest.now c.args.octets.now c.loop-rest.invariant (omega arith) (sym c.in_default.ensures))

pub loop-rest-smaller : goal.loop-rest-smaller
loop-rest-smaller c = shorter c.args.domain c.loop-rest.rest.now c.in-Some.after.now _ (sym c.in-Some.ensures)

pub loop-rest-preserved : goal.loop-rest-preserved
loop-rest-preserved c =
    sym (still c.args.domain c.loop-rest.rest.now c.in-Some.after.now _ (sym c.in-Some.ensures)) ∙ c.loop-rest.invariant

pub invariant_of-result : goal.invariant_of-result
invariant_of-result c = done c.args.domain c.loop-rest.rest.now c.args.octets.now c.loop-rest.invariant (omega arith)

pub returns : goal.returns
returns c = sym (some_unwrapped (elements c.args.domain c.args.octets.now) (done c.args.domain c.loop-rest.rest.now c.args.octets.now c.loop-rest.invariant (omega arith)))
