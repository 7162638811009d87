use Rattle.timer_queue.proofs.RankLaws as laws
use Rattle.timer_queue.proofs.laws.timers_apart.Goals as goal

pub returns : goal.returns
returns c = laws.timers_apart
