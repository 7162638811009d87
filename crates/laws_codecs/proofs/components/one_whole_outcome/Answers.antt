use Rattle.laws_codecs.proofs.Formats.{no_whole_with_fault, one_whole_fault, some_whole_outcome}
use Rattle.laws_codecs.proofs.components.one_whole_outcome.Goals as goal

pub returns-clause-some : goal.returns-clause-some
returns-clause-some c = some_whole_outcome

pub returns-clause-one : goal.returns-clause-one
returns-clause-one c = no_whole_with_fault

pub returns-clause-alone : goal.returns-clause-alone
returns-clause-alone c = one_whole_fault
