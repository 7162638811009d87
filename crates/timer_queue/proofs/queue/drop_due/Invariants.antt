use Rattle.std.proofs.Common.{◌≡◌, ◌≤◌, length}
use Rattle.timer_queue.specs.Queued.{later_than, IsQueue, IsDeadlineIndex}
use Rattle.timer_queue.proofs.queue.drop_due.Given as goal

abbrev pub invariant-loop-first : goal.invariant-loop-first
invariant-loop-first l = record {
  rest : later_than l.clock l.queue.items ≡ later_than l.clock l.fn.queue.items;
  queued : IsQueue l.queue.items;
  indexed : IsDeadlineIndex l.index.items l.queue.items;
  room : l.fn.queue.room ≤ l.queue.room;
  places : l.fn.index.room ≤ l.index.room;
}

abbrev pub decreases-loop-first : goal.decreases-loop-first
decreases-loop-first l = length l.queue.items
