use Rattle.std.proofs.Common.{◌≡◌, ◌+◌, arith, None, ap, ◌∙◌, sym, subst}
use Rattle.std.specs.Prelude.{option_map}
use Rattle.sorted_list.specs.Ordered.{at, add, Rising}
use Rattle.timer_queue.specs.Countdowns.{timer_of, countdown_rank, Countdowns}
use Rattle.timer_queue.specs.declared.queue.Deadline.{Deadline}
use Rattle.timer_queue.specs.Queued.{name, moment, index_rank, as_running, running_at}
use Rattle.timer_queue.specs.Rank.{rank}
use Rattle.timer_queue.proofs.Changes.{Keeps, keeps_added, off_is_gone, off_is_stopped, indexed, moment_apart, rising_running, running_added}
use Rattle.timer_queue.proofs.queue.Timers.start_stopped.Goals as goal

none : (c : goal.After-insert_reserved-2) → at name (rank (timer_of c.args.owner c.args.kind)) c.self.inside.queue.items ≡ None
none c = off_is_gone c.self.inside.clock (timer_of c.args.owner c.args.kind) c.args.self.now.running c.self.inside.queue.items c.self.invariant.1
    (ap (λ (v : Countdowns). v.running) c.self.view_is) c.requires.off

pub insert_reserved-requires-clause-free : goal.insert_reserved-requires-clause-free
insert_reserved-requires-clause-free c =
    moment_apart (record { deadline = c.self.inside.clock + c.args.ticks; timer = timer_of c.args.owner c.args.kind }) c.self.inside.queue.items
    (off_is_gone c.self.inside.clock (timer_of c.args.owner c.args.kind) c.args.self.now.running c.self.inside.queue.items c.self.invariant.1
    (ap (λ (v : Countdowns). v.running) c.self.view_is) c.requires.off)

pub insert_reserved-requires-2-clause-free : goal.insert_reserved-requires-2-clause-free
insert_reserved-requires-2-clause-free c =
    indexed (rank (timer_of c.args.owner c.args.kind)) c.self.inside.index.items c.self.inside.queue.items c.self.invariant.1 c.self.invariant.3
    ∙ ap (option_map as_running)
    (off_is_gone c.self.inside.clock (timer_of c.args.owner c.args.kind) c.args.self.now.running c.self.inside.queue.items c.self.invariant.1
    (ap (λ (v : Countdowns). v.running) c.self.view_is) c.requires.off)

kept : (c : goal.After-insert_reserved-2) → Keeps c.self.inside.clock (add index_rank (record { timer = timer_of c.args.owner c.args.kind; deadline = c.self.inside.clock + c.args.ticks }) c.self.inside.index.items)
    (add moment (record { deadline = c.self.inside.clock + c.args.ticks; timer = timer_of c.args.owner c.args.kind }) c.self.inside.queue.items)
kept c =
    let e : Deadline = record { deadline = c.self.inside.clock + c.args.ticks; timer = timer_of c.args.owner c.args.kind } in
    let t = c.requires.ticks in
    keeps_added c.self.inside.clock e c.self.inside.index.items c.self.inside.queue.items c.self.invariant.1 c.self.invariant.2 c.self.invariant.3 (none c) (omega (arith, t.0))

pub invariant_of-self : goal.invariant_of-self
invariant_of-self c =
    let k = subst (λ i. Keeps c.self.inside.clock i c.insert_reserved.new.self.items) (sym c.insert_reserved-2.ensures.items)
    (subst (Keeps c.self.inside.clock _) (sym c.insert_reserved.ensures.items) (kept c)) in
    (c.self.invariant.0, k.queued, k.late, k.indexed)

pub returns-clause-running : goal.returns-clause-running
returns-clause-running c =
    let is = ap (λ (v : Countdowns). v.running) c.self.view_is in
    let timer = timer_of c.args.owner c.args.kind in
    ap (running_at c.self.inside.clock) c.insert_reserved.ensures.items
    ∙ running_added c.self.inside.clock c.args.ticks timer c.args.self.now.running c.self.inside.queue.items c.self.invariant.1 (none c)
    (subst (Rising countdown_rank) is (rising_running c.self.inside.clock c.self.inside.queue.items c.self.invariant.1))
    (is ∙ off_is_stopped timer c.args.self.now.running c.requires.off)
