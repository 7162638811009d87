use Rattle.std.proofs.Common.{◌≡◌, ◌<◌, ◌++◌, drop, length}
use Rattle.mme_types.specs.Events.{item_of}
use Rattle.sorted_list.specs.Ordered.{Every}
use Rattle.mme_owners.specs.SteppedView.{SteppedView}
use Rattle.mme_owners.specs.SubscriberLaws.{some_give}
use Rattle.mme_owners.specs.Subscribers.{IsCounting, IsOnwardAt, IsStepped, slots_stepped}
use Rattle.mme_answering.specs.Settled.{item_sent}
use Rattle.mme_answering.proofs.preparing.prepare_each.Given as goal

-- who was called, and who is left
abbrev pub invariant-loop-slot : goal.invariant-loop-slot
invariant-loop-slot l =
    let ws = l.fn.subscribers.subscribers in
    let rest = drop l.slot-index l.called in
    let item = item_of l.event l.stations in
    record {
      same : l.subscribers ≡ l.fn.subscribers;
      below : Every (λ k. k < length ws) rest;
      slots : slots_stepped l.stepped.items ++ rest ≡ l.called;
      stepped : Every (IsStepped item ws) l.stepped.items;
      counting : Every (λ (x : SteppedView). IsCounting x.solo) l.stepped.items;
      onward : Every (IsOnwardAt ws) l.stepped.items;
      sends : l.outs ++ some_give (item_sent item) rest ws ≡ l.fn.outs ++ some_give (item_sent item) l.called ws;
    }
