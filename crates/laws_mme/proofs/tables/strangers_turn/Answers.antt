use Rattle.stranger_machine.specs.Laws as strangers
use Rattle.laws_mme.proofs.tables.strangers_turn.Goals as goal

pub returns-clause-one : goal.returns-clause-one
returns-clause-one c = strangers.one_turned

pub returns-clause-all : goal.returns-clause-all
returns-clause-all c = strangers.all_turned
