use Rattle.laws_mme.proofs.RememberedKept.{remembered_stays_apart, remembered_stays_kept}
use Rattle.laws_mme.proofs.Remembering.{remembers_once, states_are_remembered}
use Rattle.laws_mme.proofs.restarting.what_is_remembered_stays_kept.Goals as goal

pub returns-clause-states : goal.returns-clause-states
returns-clause-states c = states_are_remembered

pub returns-clause-once : goal.returns-clause-once
returns-clause-once c = remembers_once

pub returns-clause-kept : goal.returns-clause-kept
returns-clause-kept c = remembered_stays_kept

pub returns-clause-apart : goal.returns-clause-apart
returns-clause-apart c = remembered_stays_apart
