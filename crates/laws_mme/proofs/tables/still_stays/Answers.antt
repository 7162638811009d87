use Rattle.emm_machine.specs.Laws as subscribers
use Rattle.laws_mme.proofs.tables.still_stays.Goals as goal

pub returns : goal.returns
returns c = subscribers.still_stays
