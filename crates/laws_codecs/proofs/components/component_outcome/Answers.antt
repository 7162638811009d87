use Rattle.laws_codecs.proofs.Deciding.{never_spelled_with_fault, one_fault_of, spelled_or_fault}
use Rattle.laws_codecs.proofs.components.component_outcome.Goals as goal

pub returns-clause-some : goal.returns-clause-some
returns-clause-some c = spelled_or_fault

pub returns-clause-one : goal.returns-clause-one
returns-clause-one c = never_spelled_with_fault

pub returns-clause-alone : goal.returns-clause-alone
returns-clause-alone c = one_fault_of
