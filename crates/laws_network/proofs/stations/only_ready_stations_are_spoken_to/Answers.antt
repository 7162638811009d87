use Rattle.laws_network.proofs.PlacedWorlds.{speaks_to_the_ready}
use Rattle.laws_network.proofs.stations.only_ready_stations_are_spoken_to.Goals as goal

pub returns : goal.returns
returns c = speaks_to_the_ready c.what_stations_tell_is_in_range.ensures.entries
