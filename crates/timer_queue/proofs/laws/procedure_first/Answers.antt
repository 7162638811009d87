use Rattle.timer_queue.proofs.RankLaws as laws
use Rattle.timer_queue.proofs.laws.procedure_first.Goals as goal

pub returns : goal.returns
returns c = laws.procedure_first
