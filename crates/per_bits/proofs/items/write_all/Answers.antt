use Rattle.std.proofs.lemmas.Result.{err_from_is_err_and}
use Rattle.per_bits.specs.Writing.{write_at}
use Rattle.per_bits.proofs.Passing.{write_goes_on, write_ends, write_done}
use Rattle.per_bits.proofs.items.write_all.Goals as goal

pub returns-in_err-write : goal.returns-in_err-write
returns-in_err-write g c =
    let p = err_from_is_err_and c.from_residual.result c.from_residual.ensures.1 in
    let x = c.value-item.result in
    rw (p.1, p.2)
    (write_ends c.in_err-write.field-0.0
    (write_at g.T.Element.format) g.T.Element.view c.args.values.now c.loop-value.value-index x x c.loop-value.writer _
    c.loop-value-test.true c.value-item.is c.in_err-write.ensures c.loop-value.invariant)

pub loop-value-preserved : goal.loop-value-preserved
loop-value-preserved g c =
    let x = c.value-item.result in
    write_goes_on
    (write_at g.T.Element.format) g.T.Element.view c.args.values.now c.loop-value.value-index x x c.loop-value.writer
    c.write.new.writer _ c.loop-value-test.true c.value-item.is c.in_ok-write.ensures c.loop-value.invariant

pub returns : goal.returns
returns g c =
    write_done
    (write_at g.T.Element.format) g.T.Element.view c.args.values.now c.loop-value.value-index c.loop-value.writer _
    c.loop-value-test.false c.loop-value.invariant
