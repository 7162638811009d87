use Rattle.std.proofs.Common.{◌≡◌, ◌≤◌, ◌-◌, ◌^◌, ◌++◌}
use Rattle.association_table.specs.Table.{at_station}
use Rattle.association_table.proofs.Stations.{station_from}
use Rattle.association_table.proofs.table.Associations.entries_at.Given as goal

abbrev pub invariant-loop-association : goal.invariant-loop-association
invariant-loop-association l = record {
  listed : l.entries.items ++ station_from l.station l.least l.self.entries ≡ at_station l.station l.self.entries;
  small : l.least ≤ 2 ^ 32;
}

abbrev pub decreases-loop-association : goal.decreases-loop-association
decreases-loop-association l = 2 ^ 32 - l.least
