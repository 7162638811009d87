use Rattle.std.proofs.Common.{◌≡◌, ◌*◌, ◌≤◌, drop, length}
use Rattle.sorted_list.specs.Ordered.{Every}
use Rattle.mme_owners.specs.SteppedView.{SteppedView}
use Rattle.mme_owners.specs.Subscribers.{IsCounting}
use Rattle.mme_owners.specs.Owners.{all_retimed}
use Rattle.mme_owners.proofs.retiming.retime_all.Given as goal

-- who is left, and what they lead to
abbrev pub invariant-loop-one : goal.invariant-loop-one
invariant-loop-one l =
    let rest = drop l.one-index l.stepped in
    record {
      counting : Every (λ (x : SteppedView). IsCounting x.solo) rest;
      room : 2 * length rest ≤ l.timers.room;
      clock : l.timers.clock ≡ l.fn.timers.clock;
      running : all_retimed rest l.timers.running ≡ all_retimed l.stepped l.fn.timers.running;
    }
