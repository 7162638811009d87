use Rattle.mme_snapshot.proofs.PartsRead.{parts_restore as all_restore}
use Rattle.mme_snapshot.proofs.laws.parts_restore.Goals as goal

pub returns : goal.returns
returns c = all_restore
