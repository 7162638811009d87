use Rattle.snapshot_states.proofs.Sound.{are_fit, in_use_if, is_clocked_if, sound, spent_as_said}
use Rattle.snapshot_states.proofs.laws.states_that_fit.Goals as goal

pub returns-clause-sound : goal.returns-clause-sound
returns-clause-sound c = λ s spent rest v fit is. sound s spent rest v is (are_fit spent rest v fit)

pub returns-clause-clocked : goal.returns-clause-clocked
returns-clause-clocked c = is_clocked_if

pub returns-clause-in_use : goal.returns-clause-in_use
returns-clause-in_use c = in_use_if

pub returns-clause-spent : goal.returns-clause-spent
returns-clause-spent c = spent_as_said
