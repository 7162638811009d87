use Rattle.std.proofs.Common.{◌≡◌, ◌<◌, length}
use Rattle.std.specs.Vec.Iter.{into_iter_items, into_iter_len}
use Rattle.sorted_list.specs.Ordered.{Every}
use Rattle.mme_owners.specs.SteppedView.{SteppedView}
use Rattle.mme_owners.specs.Records.{touched_views, with_records}
use Rattle.mme_owners.specs.Subscribers.{AreOnward}
use Rattle.mme_owners.proofs.subscribers.settle_all.Given as goal

-- who is left, and what they lead to
abbrev pub invariant-loop-one : goal.invariant-loop-one
invariant-loop-one l =
    let rest = into_iter_items l.one-iterator in
    record {
      count : into_iter_len l.one-iterator ≡ length rest;
      slots : Every (λ (x : SteppedView). x.slot < length l.records.items) rest;
      onward : AreOnward (touched_views l.records.items) rest;
      records : with_records l.clock rest l.records.items ≡ with_records l.clock l.fn.stepped.items l.fn.records.items;
    }
