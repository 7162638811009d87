use Rattle.laws_mme.proofs.TmsisApart.{no_two_have_one_guti, no_two_have_one_tmsi}
use Rattle.laws_mme.proofs.Counters.{tmsis_are_own, tmsis_come_so}
use Rattle.laws_mme.proofs.identities.tmsis_are_apart.Goals as goal

pub returns-clause-step : goal.returns-clause-step
returns-clause-step c = tmsis_come_so

pub returns-clause-own : goal.returns-clause-own
returns-clause-own c = tmsis_are_own

pub returns-clause-two : goal.returns-clause-two
returns-clause-two c = no_two_have_one_tmsi

pub returns-clause-guti : goal.returns-clause-guti
returns-clause-guti c = no_two_have_one_guti
