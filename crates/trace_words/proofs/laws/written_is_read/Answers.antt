use Rattle.trace_words.proofs.Reread.{written_is_read}
use Rattle.trace_words.proofs.laws.written_is_read.Goals as goal

pub returns : goal.returns
returns c = written_is_read c.text_is_imsi.ensures
