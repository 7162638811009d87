use Rattle.std.proofs.Common.{◌≡◌, ◌+◌, ◌≤◌, drop, length}
use Rattle.mme_tables.specs.Waiting.{restarted}
use Rattle.mme_owners.proofs.retiming.restart.Given as goal

-- who is left, and what they lead to
abbrev pub invariant-loop-id : goal.invariant-loop-id
invariant-loop-id l =
    let rest = drop l.id-index l.due in
    record {
      room : length rest ≤ l.timers.room;
      spent : l.fn.timers.room + length rest ≤ l.timers.room + length l.due;
      clock : l.timers.clock ≡ l.fn.timers.clock;
      running : restarted rest l.strangers.strangers l.timers.running
          ≡ restarted l.due l.strangers.strangers l.fn.timers.running;
    }
