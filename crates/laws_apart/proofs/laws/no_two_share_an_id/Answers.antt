use Rattle.laws_apart.proofs.Apart.{no_two_share, none_has_waiting}
use Rattle.laws_apart.proofs.laws.no_two_share_an_id.Goals as goal

pub returns-clause-two : goal.returns-clause-two
returns-clause-two c = no_two_share

pub returns-clause-waiting : goal.returns-clause-waiting
returns-clause-waiting c = none_has_waiting
