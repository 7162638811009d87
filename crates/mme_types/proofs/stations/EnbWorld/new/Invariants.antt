use Rattle.std.proofs.Common.{◌≡◌, replicate}
use Rattle.mme_types.specs.declared.stations.StationState.TheVariants.{Down}
use Rattle.mme_types.proofs.stations.EnbWorld.new.Given as goal

abbrev pub invariant-loop : goal.invariant-loop
invariant-loop l = l.stations.items ≡ replicate l.counter Down
