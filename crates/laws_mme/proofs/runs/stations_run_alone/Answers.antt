use Rattle.laws_mme.proofs.OwnersAlone.{station_is_told}
use Rattle.laws_mme.proofs.StationsAlone.{station_goes_alone}
use Rattle.laws_mme.proofs.runs.stations_run_alone.Goals as goal

pub returns-clause-told : goal.returns-clause-told
returns-clause-told c = station_is_told c.one_output.ensures.reply

pub returns-clause-state : goal.returns-clause-state
returns-clause-state c = station_goes_alone
