use Rattle.std.proofs.Common.{take}
use Rattle.std.specs.List.{list_any}
use Rattle.mme_tables.specs.KeptPlaces.{is_held, Gathers}
use Rattle.mme_tables.proofs.slots.gather_owners.Given as goal

abbrev pub invariant-loop-place : goal.invariant-loop-place
invariant-loop-place l = Gathers (λ i. list_any (is_held i) (take l.place l.associations)) l.fn.gathered.items l.gathered.items
