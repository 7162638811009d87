use Rattle.std.proofs.Common.{◌≡◌, ◌-◌, arith, Some, None, ap, ◌∙◌, sym}
use Rattle.std.specs.Prelude.{option_map}
use Rattle.sorted_list.specs.Ordered.{at}
use Rattle.timer_queue.specs.Countdowns.{timer_of, ticks_left, Countdowns}
use Rattle.timer_queue.specs.declared.queue.RunningTimer.{RunningTimer}
use Rattle.timer_queue.specs.Queued.{index_rank}
use Rattle.timer_queue.specs.Rank.{rank}
use Rattle.timer_queue.proofs.Changes.{left_is, late_found}
use Rattle.timer_queue.proofs.queue.Timers.left.Goals as goal

pub overflow_sub-result : goal.overflow_sub-result
overflow_sub-result c =
    let there : at index_rank (rank (timer_of c.args.owner c.args.kind)) c.self.inside.index.items ≡ Some c.in-Some.running =
    ap (λ r. at index_rank r c.self.inside.index.items) (sym (c.from.ensures ∙ c.rank.ensures)) ∙ sym c.in-Some.ensures.value in
    let late = late_found c.self.inside.clock c.in-Some.running (rank (timer_of c.args.owner c.args.kind)) c.self.inside.index.items c.self.inside.queue.items c.self.invariant.1 c.self.invariant.2 c.self.invariant.3 there in
    omega (arith, late)

pub returns-in-Some : goal.returns-in-Some
returns-in-Some c =
    let there : at index_rank (rank (timer_of c.args.owner c.args.kind)) c.self.inside.index.items ≡ Some c.in-Some.running =
    ap (λ r. at index_rank r c.self.inside.index.items) (sym (c.from.ensures ∙ c.rank.ensures)) ∙ sym c.in-Some.ensures.value in
    sym (ap (λ (v : Countdowns). ticks_left c.args.owner c.args.kind v.running) (sym c.self.view_is)
    ∙ left_is c.self.inside.clock
    (timer_of c.args.owner c.args.kind) c.self.inside.index.items c.self.inside.queue.items c.self.invariant.1 c.self.invariant.3
    ∙ ap (option_map (λ (x : RunningTimer). x.deadline - c.self.inside.clock)) there)

pub returns-in-None : goal.returns-in-None
returns-in-None c =
    let there : at index_rank (rank (timer_of c.args.owner c.args.kind)) c.self.inside.index.items ≡ None =
    ap (λ r. at index_rank r c.self.inside.index.items) (sym (c.from.ensures ∙ c.rank.ensures)) ∙ sym c.in-None.ensures.value in
    sym (ap (λ (v : Countdowns). ticks_left c.args.owner c.args.kind v.running) (sym c.self.view_is)
    ∙ left_is c.self.inside.clock
    (timer_of c.args.owner c.args.kind) c.self.inside.index.items c.self.inside.queue.items c.self.invariant.1 c.self.invariant.3
    ∙ ap (option_map (λ (x : RunningTimer). x.deadline - c.self.inside.clock)) there)
