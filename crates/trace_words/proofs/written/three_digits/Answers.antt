use Rattle.std.proofs.Common.{rules, append_assoc}
use Rattle.trace_words.proofs.written.three_digits.Goals as goal

pub returns : goal.returns
returns c = search (rules, append_assoc)
