use Rattle.std.proofs.Common.{◌≡◌, ◌-◌, Some, length}
use Rattle.mme_snapshot.specs.Restored.{repeated, subscriber_at_place}
use Rattle.mme_snapshot.proofs.restoring.read_each_subscriber.Given as goal

abbrev pub invariant-loop : goal.invariant-loop
invariant-loop l = record {
  so_far : repeated (subscriber_at_place (Some l.most)) (l.fn.count - l.counter) (l.building, l.reader)
      ≡ repeated (subscriber_at_place (Some l.most)) l.fn.count (l.fn.building, l.fn.reader);
  many : length l.building.world.subscribers ≡ l.counter;
}
