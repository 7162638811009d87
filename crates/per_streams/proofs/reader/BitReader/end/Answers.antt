use Rattle.per_streams.specs.BitLaws.{aligned_at}
use Rattle.per_streams.proofs.reader.BitReader.end.Goals as goal

pub is_spent-requires : goal.is_spent-requires
is_spent-requires c = aligned_at _ _ c.in_ok-align.ensures
