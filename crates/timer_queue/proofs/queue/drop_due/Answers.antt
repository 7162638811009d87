use Rattle.std.proofs.Common.{◌≡◌, sym, ◌∙◌, ap, subst, arith}
use Rattle.sorted_list.specs.Ordered.{without}
use Rattle.timer_queue.specs.Queued.{index_rank, later_than, IsQueue, IsDeadlineIndex}
use Rattle.timer_queue.specs.Rank.{rank}
use Rattle.timer_queue.proofs.Changes.{first_leaves}
use Rattle.timer_queue.proofs.queue.drop_due.Goals as goal

pub loop-first-preserved : goal.loop-first-preserved
loop-first-preserved c =
    let t = c.if-first-clock.false in
    let queue = c.loop-first.queue.items in
    let index = c.loop-first.index.items in
    let f = first_leaves c.args.clock c.in-Some.first index queue c.loop-first.invariant.queued c.loop-first.invariant.indexed (sym c.first.ensures ∙ c.in-Some.is) in
    let taken : c.take.new.self.items ≡ without index_rank (rank c.in-Some.first.timer) index =
    c.take.ensures.items ∙ ap (λ r. without index_rank r index) (c.from.ensures ∙ c.rank.ensures) in
    record {
      rest = ap (later_than c.args.clock) c.take_first.ensures.items ∙ sym (f.rest (omega (arith, t))) ∙ c.loop-first.invariant.rest;
      queued = subst IsQueue (sym c.take_first.ensures.items) f.queued;
      indexed = taken ∙ subst (IsDeadlineIndex (without index_rank (rank c.in-Some.first.timer) index)) (sym c.take_first.ensures.items) f.indexed;
      room = omega (arith, c.take_first.ensures.room, c.loop-first.invariant.room);
      places = omega (arith, c.take.ensures.room, c.loop-first.invariant.places);
    }
