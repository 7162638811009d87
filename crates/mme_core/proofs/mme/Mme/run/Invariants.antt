use Rattle.std.proofs.Common.{◌≡◌, ◌≤◌, length, take}
use Rattle.std.specs.Prelude.{vec_capacity}
use Rattle.mme_core.specs.Faults.{HasEachFault}
use Rattle.mme_core.proofs.Runs.{Ran}
use Rattle.mme_core.proofs.mme.Mme.run.Given as goal

abbrev pub invariant-loop-event : goal.invariant-loop-event
invariant-loop-event l = record {
  room : length l.events ≤ vec_capacity l.replies;
  count : length l.replies.items ≡ l.event-index;
  ran : Ran l.fn.self (take l.event-index l.events) l.replies.items l.self;
  faults : HasEachFault l.fn.self (take l.event-index l.events) l.replies.items;
}
