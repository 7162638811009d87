use Rattle.laws_network.proofs.PlacedWorlds.{begins_placed, stays_placed}
use Rattle.laws_network.proofs.stations.everybody_is_placed.Goals as goal

pub returns-clause-begins : goal.returns-clause-begins
returns-clause-begins c = begins_placed

pub returns-clause-stays : goal.returns-clause-stays
returns-clause-stays c = stays_placed c.what_stations_tell_is_in_range.ensures.entries
