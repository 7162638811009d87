use Rattle.laws_apart.proofs.Found.{each_id_once, found_exactly}
use Rattle.laws_apart.proofs.laws.associations_are_a_map.Goals as goal

pub returns-clause-once : goal.returns-clause-once
returns-clause-once c = each_id_once

pub returns-clause-found : goal.returns-clause-found
returns-clause-found c = found_exactly
