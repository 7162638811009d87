use Rattle.std.proofs.Common.{◌<◌, ◌∷◌, ◌∙◌, sym, ap, subst, arith, length}
use Rattle.std.specs.Vec.Iter.{into_iter_items}
use Rattle.sorted_list.specs.Ordered.{Every}
use Rattle.mme_tables.specs.SlotLaws.{changed_length}
use Rattle.mme_owners.specs.SteppedView.{SteppedView}
use Rattle.mme_owners.specs.Records.{renewed, touched_views, with_records}
use Rattle.mme_owners.specs.Subscribers.{AreOnward}
use Rattle.mme_owners.proofs.Onward.{touched_renewed}
use Rattle.mme_owners.proofs.subscribers.settle_all.Goals as goal

pub settle_due-requires-clause-onward : goal.settle_due-requires-clause-onward
settle_due-requires-clause-onward c =
    (subst (AreOnward (touched_views c.loop-one.records.items)) c.in-Some.ensures.steps.0 c.loop-one.invariant.onward).0

pub loop-one-preserved : goal.loop-one-preserved
loop-one-preserved c =
    let steps = c.in-Some.ensures.steps in
    let cut = steps.0 in
    let one = c.in-Some.one in
    let rest = into_iter_items c.next.new.self in
    let inv = c.loop-one.invariant in
    let before = c.loop-one.records.items in
    let clock = c.args.clock in
    let longer = ap length c.settle_due.ensures ∙ changed_length one.slot (renewed clock one.solo) before in
    let shorter = ap length cut in
    let slots : Every (λ (x : SteppedView). x.slot < length before) (one ∷ rest) = subst (Every (λ (x : SteppedView). x.slot < length before)) cut inv.slots in
    let onward : AreOnward (touched_views before) (one ∷ rest) = subst (AreOnward (touched_views before)) cut inv.onward in
    let after = ap touched_views c.settle_due.ensures ∙ touched_renewed clock one.slot one.solo before in
    let less = steps.1 in
    record {
      count = omega (arith, inv.count);
      slots = subst (λ n. Every (λ (x : SteppedView). x.slot < n) rest) (sym longer) slots.1;
      onward = subst (λ ws. AreOnward ws rest) (sym after) onward.1;
      records =
          ap (with_records clock rest) c.settle_due.ensures ∙ ap (λ xs. with_records clock xs before) (sym cut) ∙ inv.records;
    }
