use Rattle.timer_queue.proofs.RankLaws as laws
use Rattle.timer_queue.proofs.laws.in_owner_order.Goals as goal

pub returns : goal.returns
returns c = laws.in_owner_order
