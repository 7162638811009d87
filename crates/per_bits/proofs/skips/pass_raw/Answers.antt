use Rattle.std.proofs.lemmas.Result.{err_from_is_err_and}
use Rattle.per_streams.specs.Each.{times}
use Rattle.per_bits.specs.Reading.{read_at}
use Rattle.per_bits.specs.Formats.{raw}
use Rattle.per_bits.proofs.Passing.{unkept, goes_on, ends, is_done}
use Rattle.per_bits.proofs.skips.pass_raw.Goals as goal

pub returns-in_err-pass_one : goal.returns-in_err-pass_one
returns-in_err-pass_one c =
    let p = err_from_is_err_and c.from_residual.result c.from_residual.ensures.1 in
    rw (p.1, p.2)
    (ends (read_at raw) c.in_err-pass_one.field-0.0 c.args.count c.loop.counter c.loop.reader
    (unkept (times (read_at raw) c.args.count c.args.reader.now)) c.loop-test.true c.in_err-pass_one.ensures c.loop.invariant)

pub loop-preserved : goal.loop-preserved
loop-preserved c =
    goes_on (read_at raw) c.args.count c.loop.counter c.loop.reader c.pass_one.new.reader
    (unkept (times (read_at raw) c.args.count c.args.reader.now)) c.loop-test.true c.in_ok-pass_one.ensures c.loop.invariant

pub returns : goal.returns
returns c =
    is_done (read_at raw) c.args.count c.loop.counter c.loop.reader
    (unkept (times (read_at raw) c.args.count c.args.reader.now)) c.loop-test.false c.loop.invariant
