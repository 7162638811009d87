use Rattle.std.proofs.Common.{arith}
use Rattle.per_streams.specs.NumberLaws.{octets-mono, wide_some}
use Rattle.per_streams.proofs.whole.put_offset.Goals as goal

pub put_counted-requires-clause-some : goal.put_counted-requires-clause-some
put_counted-requires-clause-some c =
    rw (c.width-else-span-lt65536.ensures.exact, c.octets_of.ensures.exact) (wide_some c.args.span c.if-span-lt65536.false)

pub put_counted-requires-clause-fits : goal.put_counted-requires-clause-fits
put_counted-requires-clause-fits c =
    let mono = octets-mono c.args.offset c.args.span c.requires in
    let e = c.octets_of.ensures.exact in
    let f = c.width-else-span-lt65536.ensures.fits in
    omega (arith, mono, e, f)
