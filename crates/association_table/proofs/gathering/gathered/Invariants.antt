use Rattle.std.proofs.Common.{◌≡◌, take}
use Rattle.std.specs.Prelude.{filter}
use Rattle.association_table.specs.Listing.{is_listed}
use Rattle.association_table.proofs.gathering.gathered.Given as goal

abbrev pub invariant-loop-place : goal.invariant-loop-place
invariant-loop-place l = l.gathered.items ≡ filter (is_listed l.station (take l.place l.items)) l.associations.entries
