use Rattle.std.proofs.Common.{◌++◌, ◌∷◌, [], sym, arith}
use Rattle.std.proofs.lemmas.Result.{err_from_is_err_and}
use Rattle.per_streams.specs.Bits.{bit_at}
use Rattle.per_streams.specs.Each.{times}
use Rattle.per_streams.specs.BitLaws.{bool_below}
use Rattle.per_bits.proofs.Passing.{trues-push}
use Rattle.per_streams.specs.Times.{goes_on, is_done}
use Rattle.per_streams.specs.WholeOctets.{ends_fault}
use Rattle.per_bits.proofs.skips.count_flags.Goals as goal

pub returns-in_err-some : goal.returns-in_err-some
returns-in_err-some c =
    let p = err_from_is_err_and c.from_residual.result c.from_residual.ensures.1 in
    let i = c.loop.invariant in
    rw (p.1, p.2)
    (ends_fault bit_at c.in_err-some.field-0.0 i.front c.args.count c.loop.counter c.loop.reader
    (times bit_at c.args.count c.args.reader.now) c.loop-test.true c.in_err-some.ensures i.so_far)

pub loop-preserved : goal.loop-preserved
loop-preserved c =
    let i = c.loop.invariant in
    let b = c.in_ok-some.field-0 in
    let t = i.trues_are in
    let f = i.few in
    record {
      front = i.front ++ b ∷ [];
      so_far =
          goes_on bit_at i.front c.args.count c.loop.counter c.loop.reader b c.take_bit.new.self
          (times bit_at c.args.count c.args.reader.now) c.loop-test.true c.in_ok-some.ensures i.so_far;
      trues_are = rw t (sym (trues-push i.front b));
      few = omega (arith, f, bool_below b);
    }

pub returns : goal.returns
returns c =
    let i = c.loop.invariant in (
      i.front,
      is_done bit_at i.front c.args.count c.loop.counter c.loop.reader
          (times bit_at c.args.count c.args.reader.now) c.loop-test.false i.so_far,
      i.trues_are,
    )
