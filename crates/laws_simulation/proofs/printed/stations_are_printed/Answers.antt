use Rattle.laws_simulation.proofs.StationLines.{station_is_printed, station_is_printed_from}
use Rattle.laws_simulation.proofs.printed.stations_are_printed.Goals as goal

pub returns-clause-trace : goal.returns-clause-trace
returns-clause-trace c = station_is_printed c.ids_are_apart.ensures.begins c.stations_run_alone.ensures.told

pub returns-clause-mme : goal.returns-clause-mme
returns-clause-mme c = station_is_printed_from c.stations_run_alone.ensures.told
