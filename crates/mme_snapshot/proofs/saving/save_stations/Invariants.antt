use Rattle.std.proofs.Common.{take}
use Rattle.mme_snapshot.specs.Saved.{AreStations}
use Rattle.mme_snapshot.proofs.saving.save_stations.Given as goal

abbrev pub invariant-loop-state : goal.invariant-loop-state
invariant-loop-state l = AreStations (take l.state-index l.stations) l.octets.items
