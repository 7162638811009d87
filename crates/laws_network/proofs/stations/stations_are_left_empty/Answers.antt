use Rattle.laws_network.proofs.PlacedWorlds.{leaves_empty}
use Rattle.laws_network.proofs.stations.stations_are_left_empty.Goals as goal

pub returns : goal.returns
returns c = leaves_empty
