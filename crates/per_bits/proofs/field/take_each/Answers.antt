use Rattle.std.proofs.Common.{take, length, arith, ◌∙◌, refl}
use Rattle.std.proofs.lemmas.Result.{err_from_is_err_and}
use Rattle.std.proofs.lemmas.List.{take_more_set, take_all}
use Rattle.per_streams.specs.Bits.{bit_at}
use Rattle.per_streams.specs.Each.{times}
use Rattle.per_streams.specs.Times.{goes_on, is_done}
use Rattle.per_streams.specs.WholeOctets.{bits_are, ends_fault}
use Rattle.per_bits.proofs.field.take_each.Goals as goal

pub returns-in_err-bit-clause-exact : goal.returns-in_err-bit-clause-exact
returns-in_err-bit-clause-exact c =
    let n = length c.args.out.now in
    let p = err_from_is_err_and c.from_residual.result c.from_residual.ensures.1 in
    rw (p.1, p.2, bits_are n c.args.reader.now)
    (ends_fault bit_at c.in_err-bit.field-0.0 (take c.loop-bit.bit-index c.loop-bit.bit-items) n c.loop-bit.bit-index
    c.loop-bit.reader (times bit_at n c.args.reader.now) c.loop-bit-test.true c.in_err-bit.ensures c.loop-bit.invariant)

pub loop-bit-preserved : goal.loop-bit-preserved
loop-bit-preserved c =
    let n = length c.args.out.now in
    rw (take_more_set c.loop-bit.bit-items c.loop-bit.bit-index c.in_ok-bit.field-0
    (let e = c.loop-bit.auto.bit-items in let t = c.loop-bit-test.true in omega (arith, e, t)))
    (goes_on bit_at (take c.loop-bit.bit-index c.loop-bit.bit-items) n c.loop-bit.bit-index c.loop-bit.reader
    c.in_ok-bit.field-0 c.take_bit.new.self (times bit_at n c.args.reader.now) c.loop-bit-test.true c.in_ok-bit.ensures
    c.loop-bit.invariant)

pub returns-clause-exact : goal.returns-clause-exact
returns-clause-exact c =
    let n = length c.args.out.now in
    bits_are n c.args.reader.now
    ∙ is_done bit_at (take c.loop-bit.bit-index c.loop-bit.bit-items) n c.loop-bit.bit-index c.loop-bit.reader
    (times bit_at n c.args.reader.now) c.loop-bit-test.false c.loop-bit.invariant
    ∙ rw (take_all c.loop-bit.bit-index c.loop-bit.bit-items
    (let e = c.loop-bit.auto.bit-items in let t = c.loop-bit-test.false in omega (arith, e, t))) refl
