use Rattle.trace_words.proofs.Kept.{comment_kept}
use Rattle.trace_words.proofs.laws.comments_are_not_kept.Goals as goal

pub returns : goal.returns
returns c = comment_kept
