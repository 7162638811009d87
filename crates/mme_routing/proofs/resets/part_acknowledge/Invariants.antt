use Rattle.std.proofs.Common.{◌≡◌, take}
use Rattle.mme_routing.specs.Resets.{items_reset}
use Rattle.mme_routing.proofs.resets.part_acknowledge.Given as goal

abbrev pub invariant-loop-item : goal.invariant-loop-item
invariant-loop-item l = l.values.items ≡ items_reset (take l.item-index l.listed)
