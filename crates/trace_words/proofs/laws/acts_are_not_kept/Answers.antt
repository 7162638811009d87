use Rattle.trace_words.proofs.Kept.{script_says}
use Rattle.trace_words.proofs.laws.acts_are_not_kept.Goals as goal

pub returns : goal.returns
returns c = script_says
