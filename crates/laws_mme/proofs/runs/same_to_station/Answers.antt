use Rattle.laws_mme.proofs.SameStation.{same_station_from_mme, same_to_station}
use Rattle.laws_mme.proofs.runs.same_to_station.Goals as goal

pub returns-clause-machine : goal.returns-clause-machine
returns-clause-machine c = same_to_station

pub returns-clause-mme : goal.returns-clause-mme
returns-clause-mme c = same_station_from_mme c.one_output.ensures.reply
