use Rattle.std.proofs.Common.{◌≡◌, ◌≤◌, length}
use Rattle.association_table.specs.Gathering.{closed_all}
use Rattle.association_table.proofs.table.Associations.close_all.Given as goal

abbrev pub invariant-loop-association : goal.invariant-loop-association
invariant-loop-association l = record {
  closed : closed_all l.gathered.items l.self.entries ≡ closed_all l.fn.gathered.items l.fn.self.entries;
  room : l.fn.self.room ≤ l.self.room;
}

abbrev pub decreases-loop-association : goal.decreases-loop-association
decreases-loop-association l = length l.gathered.items
