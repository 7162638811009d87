use Rattle.mme_snapshot.proofs.Stations.{AreRead}
use Rattle.mme_snapshot.proofs.restoring.read_stations.Given as goal

abbrev pub invariant-loop-number : goal.invariant-loop-number
invariant-loop-number l = AreRead l.number l.stations l.reader l.fn.reader
