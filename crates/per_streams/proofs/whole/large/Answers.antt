use Rattle.std.proofs.Common.{◌+◌, ◌*◌}
use Rattle.per_streams.specs.BitLaws.{aligned_at}
use Rattle.per_streams.specs.WholeOctets.{bits_below}
use Rattle.per_streams.proofs.whole.large.Goals as goal

pub number_here-requires-clause-whole : goal.number_here-requires-clause-whole
number_here-requires-clause-whole c = aligned_at _ _ c.in_ok-align.ensures

pub is_fewest-requires-clause-fits : goal.is_fewest-requires-clause-fits
is_fewest-requires-clause-fits c = bits_below (8 * (c.in_ok-count.count + 1)) _ _ _ c.in_ok-offset.ensures
