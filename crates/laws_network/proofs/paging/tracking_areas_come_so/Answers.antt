use Rattle.laws_network.proofs.Areas.{areas_come_so}
use Rattle.laws_network.proofs.paging.tracking_areas_come_so.Goals as goal

pub returns : goal.returns
returns c = areas_come_so c.unproved_leaves.ensures
