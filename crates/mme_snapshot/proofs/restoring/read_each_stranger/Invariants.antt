use Rattle.std.proofs.Common.{◌≡◌, ◌-◌, []}
use Rattle.mme_snapshot.specs.Restored.{repeated, stranger_at_place}
use Rattle.mme_snapshot.proofs.restoring.read_each_stranger.Given as goal

abbrev pub invariant-loop : goal.invariant-loop
invariant-loop l = record {
  so_far : repeated stranger_at_place (l.fn.count - l.counter) (l.building, l.reader) ≡ repeated stranger_at_place l.fn.count (l.fn.building, l.fn.reader);
  none : l.building.world.subscribers ≡ [];
}
