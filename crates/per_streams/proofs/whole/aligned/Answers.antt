use Rattle.per_streams.specs.BitLaws.{aligned_at}
use Rattle.per_streams.proofs.whole.aligned.Goals as goal

pub number_here-requires-clause-whole : goal.number_here-requires-clause-whole
number_here-requires-clause-whole c = aligned_at _ _ c.in_ok-align.ensures
