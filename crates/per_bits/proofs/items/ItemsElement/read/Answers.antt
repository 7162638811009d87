use Rattle.std.proofs.Common.{◌+◌, arith}
use Rattle.per_bits.specs.Reading.{read_at}
use Rattle.per_streams.specs.Times.{length-times}
use Rattle.per_bits.proofs.items.ItemsElement.read.Goals as goal

pub invariant_of-result : goal.invariant_of-result
invariant_of-result g c =
    let long =
    length-times (read_at g.T.Element.format) g.T.Element.view c.in_ok-values.values.items
    (g.row.MIN + c.in_ok-more.more) c.offset_of.new.reader _ c.in_ok-values.ensures in
    let span = c.saturating_sub.ensures in
    let within = c.in_ok-more.ensures.within in
    (omega (arith, long), omega (arith, long, span, within))
