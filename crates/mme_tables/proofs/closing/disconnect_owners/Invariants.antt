use Rattle.std.proofs.Common.{take}
use Rattle.std.specs.List.{list_any}
use Rattle.mme_tables.specs.KeptPlaces.{is_held, Disconnects}
use Rattle.mme_tables.proofs.closing.disconnect_owners.Given as goal

abbrev pub invariant-loop-association : goal.invariant-loop-association
invariant-loop-association l =
    Disconnects (λ i. list_any (is_held i) (take l.association-index l.closed)) l.fn.by_slot.items l.by_slot.items
