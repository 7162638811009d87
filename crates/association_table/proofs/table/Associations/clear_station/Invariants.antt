use Rattle.std.proofs.Common.{◌≡◌, ◌≤◌, length}
use Rattle.association_table.specs.Table.{elsewhere}
use Rattle.association_table.proofs.table.Associations.clear_station.Given as goal

abbrev pub invariant-loop-association : goal.invariant-loop-association
invariant-loop-association l = record {
  others : elsewhere l.station l.self.entries ≡ elsewhere l.station l.fn.self.entries;
  room : l.fn.self.room ≤ l.self.room;
}

abbrev pub decreases-loop-association : goal.decreases-loop-association
decreases-loop-association l = length l.self.entries
