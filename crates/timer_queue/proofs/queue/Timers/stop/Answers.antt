use Rattle.std.proofs.Common.{◌≡◌, Some, None, ap, ◌∙◌, sym, subst}
use Rattle.sorted_list.specs.Ordered.{at, without}
use Rattle.sorted_list.specs.Laws.{without_absent}
use Rattle.timer_queue.specs.Countdowns.{timer_of, Countdowns, stopped}
use Rattle.timer_queue.specs.declared.queue.RunningTimer.{RunningTimer}
use Rattle.timer_queue.specs.Queued.{name, moment, index_rank, running_at, IsDeadlineIndex}
use Rattle.timer_queue.specs.Rank.{rank}
use Rattle.timer_queue.proofs.Changes.{Keeps, keeps_without, found, not_found, taken, none_stopped, running_without}
use Rattle.timer_queue.proofs.queue.Timers.stop.Goals as goal

there : (c : goal.After-take-in-Some)
    → at index_rank (rank (timer_of c.args.owner c.args.kind)) c.self.inside.index.items ≡ Some c.in-Some.running
there c = ap (λ r. at index_rank r c.self.inside.index.items) (sym (c.from.ensures ∙ c.rank.ensures)) ∙ sym c.in-Some.ensures.item

rest : (c : goal.After-take-in-Some)
    → c.take-in-Some.new.self.items ≡ without name (rank (timer_of c.args.owner c.args.kind)) c.self.inside.queue.items
rest c =
    let f = found c.in-Some.running (rank (timer_of c.args.owner c.args.kind)) c.self.inside.index.items c.self.inside.queue.items c.self.invariant.1 c.self.invariant.3 (there c) in
    c.take-in-Some.ensures.items ∙ ap (λ k. without moment k c.self.inside.queue.items) c.moment.ensures
    ∙ taken c.in-Some.running.deadline (timer_of c.args.owner c.args.kind) f.0 c.self.inside.queue.items c.self.invariant.1 f.1
    (ap (λ (x : RunningTimer). x.deadline) f.2)

index : (c : goal.After-take-in-Some)
    → c.take.new.self.items ≡ without index_rank (rank (timer_of c.args.owner c.args.kind)) c.self.inside.index.items
index c = c.in-Some.ensures.items ∙ ap (λ r. without index_rank r c.self.inside.index.items) (c.from.ensures ∙ c.rank.ensures)

kept : (c : goal.After-take-in-Some) → Keeps c.self.inside.clock (without index_rank (rank (timer_of c.args.owner c.args.kind)) c.self.inside.index.items) (without name (rank (timer_of c.args.owner c.args.kind)) c.self.inside.queue.items)
kept c =
    let f = found c.in-Some.running (rank (timer_of c.args.owner c.args.kind)) c.self.inside.index.items c.self.inside.queue.items c.self.invariant.1 c.self.invariant.3 (there c) in
    keeps_without c.self.inside.clock (rank (timer_of c.args.owner c.args.kind)) f.0 c.self.inside.index.items c.self.inside.queue.items c.self.invariant.1 c.self.invariant.2 c.self.invariant.3 f.1

pub invariant_of-self : goal.invariant_of-self
invariant_of-self c =
    let k = subst (λ i. Keeps c.self.inside.clock i c.take-in-Some.new.self.items) (sym (index c)) (subst (Keeps c.self.inside.clock (without index_rank (rank (timer_of c.args.owner c.args.kind)) c.self.inside.index.items)) (sym (rest c)) (kept c)) in
    (c.self.invariant.0, k.queued, k.late, k.indexed)

pub invariant_of-self-in_default : goal.invariant_of-self-in_default
invariant_of-self-in_default c =
    let none : at index_rank (rank (timer_of c.args.owner c.args.kind)) c.self.inside.index.items ≡ None =
    ap (λ r. at index_rank r c.self.inside.index.items) (sym (c.from.ensures ∙ c.rank.ensures)) ∙ sym c.in_default.ensures.item in
    let same = c.in_default.ensures.items ∙ ap (λ r. without index_rank r c.self.inside.index.items) (c.from.ensures ∙ c.rank.ensures) ∙ without_absent index_rank (rank (timer_of c.args.owner c.args.kind)) c.self.inside.index.items none in
    (c.self.invariant.0, c.self.invariant.1, c.self.invariant.2, subst (λ i. IsDeadlineIndex i c.self.inside.queue.items) (sym same) c.self.invariant.3)

pub returns-in-Some-clause-running : goal.returns-in-Some-clause-running
returns-in-Some-clause-running c =
    let f = found c.in-Some.running (rank (timer_of c.args.owner c.args.kind)) c.self.inside.index.items c.self.inside.queue.items c.self.invariant.1 c.self.invariant.3 (there c) in
    ap (running_at c.self.inside.clock) (rest c) ∙ running_without c.self.inside.clock (rank (timer_of c.args.owner c.args.kind)) f.0 c.self.inside.queue.items c.self.invariant.1 f.1
    ∙ ap (λ (v : Countdowns). stopped c.args.owner c.args.kind v.running) c.self.view_is

pub returns-in_default-clause-running : goal.returns-in_default-clause-running
returns-in_default-clause-running c =
    let none : at index_rank (rank (timer_of c.args.owner c.args.kind)) c.self.inside.index.items ≡ None =
    ap (λ r. at index_rank r c.self.inside.index.items) (sym (c.from.ensures ∙ c.rank.ensures)) ∙ sym c.in_default.ensures.item in
    none_stopped c.self.inside.clock (timer_of c.args.owner c.args.kind) c.self.inside.queue.items c.self.invariant.1 (not_found (rank (timer_of c.args.owner c.args.kind)) c.self.inside.index.items c.self.inside.queue.items c.self.invariant.1 c.self.invariant.3 none)
    ∙ ap (λ (v : Countdowns). stopped c.args.owner c.args.kind v.running) c.self.view_is
