use Rattle.trace_words.proofs.SplitWords.{two_parts}
use Rattle.trace_words.proofs.line.two_words.Goals as goal

pub returns-in-None : goal.returns-in-None
returns-in-None c = two_parts c.args.line.now c.in_ok-at.at c.in_ok-at.ensures c.in-None.ensures
