use Rattle.trace_words.proofs.Kept.{read_alike}
use Rattle.trace_words.proofs.laws.shared_lines_are_read_alike.Goals as goal

pub returns : goal.returns
returns c = read_alike
