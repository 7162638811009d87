use Rattle.std.proofs.Common.{◌≡◌, ◌++◌, drop}
use Rattle.mme_tables.specs.Due.{ids_of, AreOfOwners}
use Rattle.mme_tables.proofs.due.ids_of.Given as goal

-- those so far, and those of the rest
abbrev pub invariant-loop-timer : goal.invariant-loop-timer
invariant-loop-timer l = record {
  rest : AreOfOwners (drop l.timer-index l.timers);
  all : l.due.items ++ ids_of (drop l.timer-index l.timers) ≡ ids_of l.timers;
}
