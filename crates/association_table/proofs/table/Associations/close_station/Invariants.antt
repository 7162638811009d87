use Rattle.std.proofs.Common.{◌≡◌, ◌≤◌, drop}
use Rattle.sorted_list.specs.Ordered.{Rising}
use Rattle.association_table.specs.Table.{association_id, at_station, elsewhere}
use Rattle.association_table.proofs.table.Associations.close_station.Given as goal

-- those that are left
abbrev pub invariant-loop-association : goal.invariant-loop-association
invariant-loop-association l = record {
  left : at_station l.station l.self.entries ≡ drop l.association-index l.closed;
  others : elsewhere l.station l.self.entries ≡ elsewhere l.station l.fn.self.entries;
  rising : Rising association_id l.self.entries;
  room : l.fn.self.room ≤ l.self.room;
}
