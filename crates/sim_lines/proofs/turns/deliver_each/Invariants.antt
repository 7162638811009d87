use Rattle.std.proofs.Common.{take}
use Rattle.sim_lines.proofs.Playing.{Delivers}
use Rattle.sim_lines.proofs.turns.deliver_each.Given as goal

abbrev pub invariant-loop-message : goal.invariant-loop-message
invariant-loop-message l =
    Delivers (take l.message-index l.sent) l.initial.crowd l.initial.queue.items l.crowd l.queue.items
