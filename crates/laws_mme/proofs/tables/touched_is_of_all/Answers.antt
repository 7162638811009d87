use Rattle.mme_owners.specs.SubscriberLaws as table
use Rattle.laws_mme.proofs.SentByTouched.{all_send_as_touched}
use Rattle.laws_mme.proofs.tables.touched_is_of_all.Goals as goal

pub returns-clause-states : goal.returns-clause-states
returns-clause-states c = table.touched_is_of_all

pub returns-clause-sent : goal.returns-clause-sent
returns-clause-sent c = all_send_as_touched
