use Rattle.mme_snapshot.proofs.Progress.{SavedSoFar, left_from}
use Rattle.mme_snapshot.proofs.saving.save_each.Given as goal

abbrev pub invariant-loop-next : goal.invariant-loop-next
invariant-loop-next l = SavedSoFar l.mme l.octets l.next

abbrev pub decreases-loop-next : goal.decreases-loop-next
decreases-loop-next l = left_from l.mme l.next
