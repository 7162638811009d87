use Rattle.std.proofs.Common.{◌≤◌, ◌-◌, ◌^◌}
use Rattle.association_table.specs.Gathering.{Gathers}
use Rattle.association_table.proofs.Matched.{below}
use Rattle.association_table.proofs.gathering.gather_number.Given as goal

abbrev pub invariant-loop-association : goal.invariant-loop-association
invariant-loop-association l = record {
  gathered : Gathers (below l.station l.enb_ue_id l.least) l.associations.entries l.fn.gathered.items l.gathered.items;
  small : l.least ≤ 2 ^ 32;
}

abbrev pub decreases-loop-association : goal.decreases-loop-association
decreases-loop-association l = 2 ^ 32 - l.least
