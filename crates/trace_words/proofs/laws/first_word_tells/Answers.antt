use Rattle.trace_words.proofs.Kept.{first_word}
use Rattle.trace_words.proofs.laws.first_word_tells.Goals as goal

pub returns : goal.returns
returns c = first_word
