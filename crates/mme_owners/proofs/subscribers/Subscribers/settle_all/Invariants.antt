use Rattle.std.proofs.Common.{◌≡◌, ◌<◌, length}
use Rattle.std.specs.Vec.Iter.{into_iter_items, into_iter_len}
use Rattle.sorted_list.specs.Ordered.{Every}
use Rattle.mme_owners.specs.SteppedView.{SteppedView}
use Rattle.mme_owners.specs.Subscribers.{AreOnward, IsCounting, with_stepped}
use Rattle.mme_owners.proofs.subscribers.Subscribers.settle_all.Given as goal

-- who is left, and what they lead to
abbrev pub invariant-loop-one : goal.invariant-loop-one
invariant-loop-one l =
    let rest = into_iter_items l.one-iterator in
    record {
      count : into_iter_len l.one-iterator ≡ length rest;
      slots : Every (λ (x : SteppedView). x.slot < length l.self.subscribers) rest;
      counting : Every (λ (x : SteppedView). IsCounting x.solo) rest;
      onward : AreOnward l.self.subscribers rest;
      clock : l.self.clock ≡ l.fn.self.clock;
      settled : with_stepped rest l.self.subscribers ≡ with_stepped l.fn.stepped.items l.fn.self.subscribers;
    }
