use Rattle.std.proofs.Common.{◌≡◌, ◌≤◌, length}
use Rattle.std.specs.Prelude.{vec_capacity}
use Rattle.c_session.specs.Sessions.{ticks}
use Rattle.c_session.proofs.ticks.ticks.Given as goal

abbrev pub invariant-loop-tick : goal.invariant-loop-tick
invariant-loop-tick l = record {
  room : l.count ≤ vec_capacity l.events;
  count : length l.events.items ≡ l._tick;
  ticks : l.events.items ≡ ticks l._tick;
}
