use Rattle.std.proofs.Common.{◌≡◌, ◌++◌, drop}
use Rattle.std.specs.Prelude.{None}
use Rattle.mme_tables.specs.Due.{slots_once, AreOfOwners}
use Rattle.mme_tables.proofs.due.slots_of.Given as goal

-- those so far, and those of the rest
abbrev pub invariant-loop-timer : goal.invariant-loop-timer
invariant-loop-timer l = record {
  rest : AreOfOwners (drop l.timer-index l.timers);
  all : l.due.items ++ slots_once l.last (drop l.timer-index l.timers) ≡ slots_once None l.timers;
}
