use Rattle.stranger_machine.specs.StationLaws as strangers
use Rattle.laws_mme.proofs.tables.station_silent.Goals as goal

pub returns : goal.returns
returns c = strangers.station_silent
