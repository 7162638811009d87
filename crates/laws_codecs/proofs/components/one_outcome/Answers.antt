use Rattle.laws_codecs.proofs.Formats.{no_value_with_fault, one_fault, one_value_at, some_outcome}
use Rattle.laws_codecs.proofs.components.one_outcome.Goals as goal

pub returns-clause-some : goal.returns-clause-some
returns-clause-some c = some_outcome

pub returns-clause-value : goal.returns-clause-value
returns-clause-value c = one_value_at

pub returns-clause-one : goal.returns-clause-one
returns-clause-one c = no_value_with_fault

pub returns-clause-alone : goal.returns-clause-alone
returns-clause-alone c = one_fault
