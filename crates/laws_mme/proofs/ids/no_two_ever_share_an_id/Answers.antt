use Rattle.laws_mme.proofs.IdRuns.{no_two_share, none_has_waiting, runs_apart}
use Rattle.laws_mme.proofs.ids.no_two_ever_share_an_id.Goals as goal

pub returns-clause-two : goal.returns-clause-two
returns-clause-two c = no_two_share c.no_two_share_an_id.ensures.two

pub returns-clause-waiting : goal.returns-clause-waiting
returns-clause-waiting c = none_has_waiting c.no_two_share_an_id.ensures.waiting

pub returns-clause-runs : goal.returns-clause-runs
returns-clause-runs c = runs_apart c.ids_are_apart.ensures.begins c.ids_are_apart.ensures.stays c.no_two_share_an_id.ensures.two
