use Rattle.laws_codecs.proofs.Ranged.{decoded_is_in_range}
use Rattle.laws_codecs.proofs.s1ap.decoded_is_in_range.Goals as goal

pub returns : goal.returns
returns c = decoded_is_in_range c.decoded_exactly.ensures.spelled
