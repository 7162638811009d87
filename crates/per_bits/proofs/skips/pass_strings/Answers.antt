use Rattle.std.proofs.Common.{refl}
use Rattle.std.proofs.lemmas.Result.{err_from_is_err_and}
use Rattle.per_streams.specs.Bits.{open_at}
use Rattle.per_streams.specs.Each.{times}
use Rattle.per_bits.proofs.Passing.{unkept, goes_on, ends, is_done}
use Rattle.per_bits.proofs.skips.pass_strings.Goals as goal

pub returns-in_err-take_open : goal.returns-in_err-take_open
returns-in_err-take_open c =
    let p = err_from_is_err_and c.from_residual.result c.from_residual.ensures.1 in
    rw (p.1, p.2)
    (ends open_at c.in_err-take_open.field-0.0 c.args.count c.loop.counter c.loop.reader
    (unkept (times open_at c.args.count c.args.reader.now)) c.loop-test.true
    (rw c.in_err-take_open.ensures refl) c.loop.invariant)

pub loop-preserved : goal.loop-preserved
loop-preserved c =
    goes_on open_at c.args.count c.loop.counter c.loop.reader c.take_open.new.reader
    (unkept (times open_at c.args.count c.args.reader.now)) c.loop-test.true (rw c.in_ok-take_open.ensures refl) c.loop.invariant

pub returns : goal.returns
returns c =
    is_done open_at c.args.count c.loop.counter c.loop.reader
    (unkept (times open_at c.args.count c.args.reader.now)) c.loop-test.false c.loop.invariant
