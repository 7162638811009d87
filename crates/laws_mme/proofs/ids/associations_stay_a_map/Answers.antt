use Rattle.laws_mme.proofs.IdRuns.{each_id_once, each_id_once_in_runs, found_exactly}
use Rattle.laws_mme.proofs.ids.associations_stay_a_map.Goals as goal

pub returns-clause-once : goal.returns-clause-once
returns-clause-once c = each_id_once c.associations_are_a_map.ensures.once

pub returns-clause-found : goal.returns-clause-found
returns-clause-found c = found_exactly c.associations_are_a_map.ensures.found

pub returns-clause-runs : goal.returns-clause-runs
returns-clause-runs c =
    each_id_once_in_runs c.ids_are_apart.ensures.begins c.ids_are_apart.ensures.stays c.associations_are_a_map.ensures.once
