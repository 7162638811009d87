use Rattle.mme_owners.specs.SubscriberLaws as table
use Rattle.laws_mme.proofs.SentByTouched.{all_send_as_due}
use Rattle.laws_mme.proofs.tables.tick_is_of_all.Goals as goal

pub returns-clause-states : goal.returns-clause-states
returns-clause-states c = table.tick_is_of_all

pub returns-clause-silent : goal.returns-clause-silent
returns-clause-silent c = table.quiet_sent

pub returns-clause-sent : goal.returns-clause-sent
returns-clause-sent c = all_send_as_due
