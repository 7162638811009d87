use Rattle.std.proofs.Common.{◌≡◌, ℕ, map, take}
use Rattle.snapshot_states.proofs.restoring.stations_of.Given as goal

abbrev pub invariant-loop-station : goal.invariant-loop-station
invariant-loop-station l = l.stations.items ≡ map (λ (e : ℕ). e) (take l.station-index l.saved)
