use Rattle.trace_words.proofs.Kept.{written_kept}
use Rattle.trace_words.proofs.laws.written_is_kept.Goals as goal

pub returns : goal.returns
returns c = written_kept c.written_is_read.ensures
