-- What a change of the queue and of its index makes of the running countdowns.
use Rattle.std.proofs.Common.{◌≡◌, ℕ, ◌+◌, ◌-◌, ◌*◌, ◌^◌, ◌<◌, ◌≤◌, List, [], ◌∷◌, length, map, refl, sym, ◌∙◌, ap, subst, arith}
use Rattle.std.specs.Prelude.{◌==◌, nat_le, drop, Option, Some, None, Bool, true, false, cond, option_map}
use borrow.Author.Tests.{eqb-true}
use Rattle.std.proofs.lemmas.Bool.Decides.{nat_tests}
use Rattle.sorted_list.specs.Ordered.{add, without, at, ordered, Rising}
use Rattle.sorted_list.specs.Laws.{at_key, without_absent, rising-without, at-without}
use Rattle.sorted_list.specs.Indexed.{every-add, every-without, every_at, without_named, ordered-add, ordered_taken, at-ordered, without-add, rising-add, rising-ordered, put_is_add, distinct-add, distinct-without, map-add, map-without, at-map, rising-map}
use Rattle.timer_queue.specs.declared.timer.Timer.{Timer}
use Rattle.timer_queue.specs.Countdowns.{Countdown}
use Rattle.timer_queue.specs.declared.queue.Deadline.{Deadline}
use Rattle.timer_queue.specs.declared.queue.RunningTimer.{RunningTimer}
use Rattle.timer_queue.specs.Rank.{rank}
use Rattle.timer_queue.specs.Countdowns.{countdown_rank, ticks_left, started, stopped}
use Rattle.timer_queue.specs.Queued.{name, moment, index_rank, as_running, as_left, running_at, IsQueue, AreLate, IsDeadlineIndex, later_than}
use Rattle.sorted_list.specs.Sorted.{lowest}

pub rank_small : (t : Timer) → rank t < 2 ^ 64
unfolding rank
rank_small t = omega arith

-- look-ups
pub running_there : (clock r : ℕ) (queue : List Deadline) → IsQueue queue
    → at countdown_rank r (running_at clock queue) ≡ option_map (as_left clock) (at name r queue)
running_there clock r queue h =
    at-map (as_left clock) countdown_rank r (ordered name queue)
    ∙ ap (option_map (as_left clock)) (at-ordered name r queue h.distinct)

pub indexed : (r : ℕ) (index : List RunningTimer) (queue : List Deadline) → IsQueue queue → IsDeadlineIndex index queue
    → at index_rank r index ≡ option_map as_running (at name r queue)
indexed r index queue h i =
    ap (at index_rank r) i ∙ at-map as_running index_rank r (ordered name queue)
    ∙ ap (option_map as_running) (at-ordered name r queue h.distinct)

left_by : (clock : ℕ) (o : Option Deadline) → option_map (λ (c : Countdown). c.ticks) (option_map (as_left clock) o) ≡ option_map (λ (x : RunningTimer). x.deadline - clock) (option_map as_running o)
left_by clock None = refl
left_by clock (Some e) = refl

pub left_is : (clock : ℕ) (timer : Timer) (index : List RunningTimer) (queue : List Deadline) → IsQueue queue
    → IsDeadlineIndex index queue
    → ticks_left timer.owner timer.kind (running_at clock queue)
    ≡ option_map (λ (x : RunningTimer). x.deadline - clock) (at index_rank (rank timer) index)
left_is clock timer index queue h i =
    ap (option_map (λ (c : Countdown). c.ticks)) (running_there clock (rank timer) queue h)
    ∙ left_by clock (at name (rank timer) queue)
    ∙ ap (option_map (λ (x : RunningTimer). x.deadline - clock)) (sym (indexed (rank timer) index queue h i))

found_by : (x : RunningTimer) (o : Option Deadline) → option_map as_running o ≡ Some x
    → (e : Deadline) × (o ≡ Some e) × (as_running e ≡ x)
found_by x None h = absurd (cc)
found_by x (Some e) h = (e, refl, (cc))

pub found : (x : RunningTimer) (r : ℕ) (index : List RunningTimer) (queue : List Deadline) → IsQueue queue
    → IsDeadlineIndex index queue → at index_rank r index ≡ Some x
    → (e : Deadline) × (at name r queue ≡ Some e) × (as_running e ≡ x)
found x r index queue q i h = found_by x (at name r queue) (sym (indexed r index queue q i) ∙ h)

none_by : (o : Option Deadline) → option_map as_running o ≡ None → o ≡ None
none_by None h = refl
none_by (Some e) h = absurd (cc)

pub not_found : (r : ℕ) (index : List RunningTimer) (queue : List Deadline) → IsQueue queue → IsDeadlineIndex index queue
    → at index_rank r index ≡ None → at name r queue ≡ None
not_found r index queue q i h = none_by (at name r queue) (sym (indexed r index queue q i) ∙ h)

pub late_found : (clock : ℕ) (x : RunningTimer) (r : ℕ) (index : List RunningTimer) (queue : List Deadline) → IsQueue queue
    → AreLate clock queue → IsDeadlineIndex index queue
    → at index_rank r index ≡ Some x → clock < x.deadline
late_found clock x r index queue q l i h =
    let f = found x r index queue q i h in
    let late : clock < f.0.deadline = every_at (λ e. clock < e.deadline) name r f.0 queue f.1 l in
    subst (λ (x : RunningTimer). clock < x.deadline) f.2 late

-- a timer that leaves
moment_is : (r d : ℕ) (e : Deadline) (timer : Timer) → e.deadline ≡ d → rank e.timer ≡ rank timer
    → d * 2 ^ 64 + rank timer ≡ moment e
moment_is r d e timer p q = cc

pub taken : (d : ℕ) (timer : Timer) (e : Deadline) (queue : List Deadline) → IsQueue queue → at name (rank timer) queue ≡ Some e
    → e.deadline ≡ d
    → without moment (d * 2 ^ 64 + rank timer) queue ≡ without name (rank timer) queue
taken d timer e queue h a s =
    let own = at_key name (rank timer) e queue a in
    ap (λ k. without moment k queue) (moment_is (rank timer) d e timer s own)
    ∙ without_named moment name (rank timer) e queue h.rising a

pub queue_without : (r : ℕ) (e : Deadline) (queue : List Deadline) → IsQueue queue → at name r queue ≡ Some e
    → IsQueue (without name r queue)
queue_without r e queue h a = record {
  rising = subst (Rising moment) (without_named moment name r e queue h.rising a) (rising-without moment (moment e) queue h.rising);
  distinct = distinct-without name r queue h.distinct;
}

pub running_without : (clock r : ℕ) (e : Deadline) (queue : List Deadline) → IsQueue queue → at name r queue ≡ Some e
    → running_at clock (without name r queue) ≡ without countdown_rank r (running_at clock queue)
running_without clock r e queue h a =
    let own = at_key name r e queue a in
    let rest = ordered name (without name r queue) in
    let zs = ordered_taken moment name r e queue h.distinct a in
    ap (map (as_left clock)) (sym (without-add name r e rest own)) ∙ map-without (as_left clock) countdown_rank r (add name e rest)
    ∙ ap (λ ys. without countdown_rank r (map (as_left clock) ys)) (sym zs)

pub index_without : (r : ℕ) (e : Deadline) (index : List RunningTimer) (queue : List Deadline) → IsQueue queue
    → IsDeadlineIndex index queue → at name r queue ≡ Some e
    → IsDeadlineIndex (without index_rank r index) (without name r queue)
index_without r e index queue h i a =
    let own = at_key name r e queue a in
    let rest = ordered name (without name r queue) in
    ap (without index_rank r) (i ∙ ap (map as_running) (ordered_taken moment name r e queue h.distinct a))
    ∙ sym (map-without as_running index_rank r (add name e rest)) ∙ ap (map as_running) (without-add name r e rest own)

pub none_stopped : (clock : ℕ) (timer : Timer) (queue : List Deadline) → IsQueue queue → at name (rank timer) queue ≡ None
    → running_at clock queue ≡ stopped timer.owner timer.kind (running_at clock queue)
none_stopped clock timer queue h a =
    sym (without_absent countdown_rank (rank timer) (running_at clock queue) (running_there clock (rank timer) queue h ∙ ap (option_map (as_left clock)) a))

-- a timer that comes
pub rising_running : (clock : ℕ) (queue : List Deadline) → IsQueue queue → Rising countdown_rank (running_at clock queue)
rising_running clock queue h = rising-map (as_left clock) countdown_rank (ordered name queue) (rising-ordered name queue h.distinct)

mapped_none : (clock : ℕ) (o : Option Deadline) → option_map (as_left clock) o ≡ None → o ≡ None
mapped_none clock None h = refl
mapped_none clock (Some e) h = absurd (cc)

gone : (clock : ℕ) (timer : Timer) (before : List Countdown) (queue : List Deadline) → IsQueue queue → Rising countdown_rank before
    → running_at clock queue ≡ stopped timer.owner timer.kind before → at name (rank timer) queue ≡ None
gone clock timer before queue h r s =
    let w = at-without countdown_rank (rank timer) (rank timer) before r in
    let none : at countdown_rank (rank timer) (running_at clock queue) ≡ None =
    ap (at countdown_rank (rank timer)) s ∙ grind (arith, nat_tests) in
    mapped_none clock (at name (rank timer) queue) (sym (running_there clock (rank timer) queue h) ∙ none)

-- what was stopped does not run
pub gone_after : (old new : ℕ) (timer : Timer) (running left : List Countdown) (before queue : List Deadline) → IsQueue before
    → IsQueue queue → running_at old before ≡ running → running_at new queue ≡ left
    → left ≡ stopped timer.owner timer.kind running → at name (rank timer) queue ≡ None
gone_after old new timer running left before queue h i was is s =
    gone new timer running queue i (subst (Rising countdown_rank) was (rising_running old before h)) (is ∙ s)

none_left : (o : Option Countdown) → option_map (λ (c : Countdown). c.ticks) o ≡ None → o ≡ None
none_left None h = refl
none_left (Some c) h = absurd (cc)

-- what does not run is as if it was stopped
pub off_is_stopped : (timer : Timer) (running : List Countdown) → ticks_left timer.owner timer.kind running ≡ None
    → running ≡ stopped timer.owner timer.kind running
off_is_stopped timer running h =
    sym (without_absent countdown_rank (rank timer) running (none_left (at countdown_rank (rank timer) running) h))

pub off_is_gone : (clock : ℕ) (timer : Timer) (running : List Countdown) (queue : List Deadline) → IsQueue queue
    → running_at clock queue ≡ running → ticks_left timer.owner timer.kind running ≡ None → at name (rank timer) queue ≡ None
off_is_gone clock timer running queue h is off =
    gone_after clock clock timer running running queue queue h h is is (off_is_stopped timer running off)

-- a timer that is started anew was stopped first
pub started_again : (timer : Timer) (ticks : ℕ) (running : List Countdown) → Rising countdown_rank running
    → started timer.owner timer.kind ticks (stopped timer.owner timer.kind running)
    ≡ started timer.owner timer.kind ticks running
started_again timer ticks running r =
    let c : Countdown = record { timer = timer; ticks = ticks } in
    let rest : List Countdown = without countdown_rank (rank timer) running in
    let w = at-without countdown_rank (rank timer) (rank timer) running r in
    let none : at countdown_rank (rank timer) rest ≡ None = grind (arith, nat_tests) in
    put_is_add countdown_rank c rest (rising-without countdown_rank (rank timer) running r)
    ∙ ap (add countdown_rank c) (without_absent countdown_rank (rank timer) rest none)
    ∙ sym (put_is_add countdown_rank c running r)

-- a timer that was stopped doesn't run
pub stopped_is_off : (timer : Timer) (running : List Countdown) → Rising countdown_rank running
    → ticks_left timer.owner timer.kind (stopped timer.owner timer.kind running) ≡ None
stopped_is_off timer running r =
    let rest : List Countdown = without countdown_rank (rank timer) running in
    let w = at-without countdown_rank (rank timer) (rank timer) running r in
    let none : at countdown_rank (rank timer) rest ≡ None = grind (arith, nat_tests) in
    ap (option_map (λ (c : Countdown). c.ticks)) none

apart_by : (a b c d : ℕ) → b < 2 ^ 64 → d < 2 ^ 64 → a * 2 ^ 64 + b ≡ c * 2 ^ 64 + d → b ≡ d
apart_by a b c d p q e = omega arith

moment_apart_by : (e y : Deadline) (ys : List Deadline) (b : Bool) → (name y == name e) ≡ b
    → cond b (Some y) (at name (name e) ys) ≡ None → (c : Bool) → (moment y == moment e) ≡ c
    → (at name (name e) ys ≡ None → at moment (moment e) ys ≡ None) → cond c (Some y) (at moment (moment e) ys) ≡ None
moment_apart_by e y ys true n h c m ih = absurd (cc)
moment_apart_by e y ys false n h true m ih =
    let same : moment y ≡ moment e = eqb-true _ _ m in
    let equal : name y ≡ name e =
    apart_by y.deadline (rank y.timer) e.deadline (rank e.timer) (rank_small y.timer) (rank_small e.timer) same in
    absurd (grind (arith, nat_tests))
moment_apart_by e y ys false n h false m ih = ih h

pub moment_apart : (e : Deadline) (queue : List Deadline) → at name (name e) queue ≡ None → at moment (moment e) queue ≡ None
moment_apart e [] h = refl
moment_apart e (y ∷ ys) h = moment_apart_by e y ys (name y == name e) refl h (moment y == moment e) refl (moment_apart e ys)

pub added : (e : Deadline) (queue : List Deadline) → IsQueue queue → at name (name e) queue ≡ None → IsQueue (add moment e queue)
added e queue h a = record {
  rising = rising-add moment e queue (moment_apart e queue a) h.rising;
  distinct = distinct-add name moment e queue a h.distinct;
}

pub running_added : (clock ticks : ℕ) (timer : Timer) (before : List Countdown) (queue : List Deadline) → IsQueue queue
    → at name (rank timer) queue ≡ None
    → Rising countdown_rank before → running_at clock queue ≡ stopped timer.owner timer.kind before
    → running_at clock (add moment (record { deadline = clock + ticks; timer = timer }) queue) ≡ started timer.owner timer.kind ticks before
running_added clock ticks timer before queue h a r s =
    let e : Deadline = record { deadline = clock + ticks; timer = timer } in
    let c : Countdown = record { timer = timer; ticks = ticks } in
    let same : as_left clock e ≡ c = ap (λ n. record { timer = timer; ticks = n }) (omega arith) in
    ap (map (as_left clock)) (ordered-add moment name e queue a) ∙ map-add (as_left clock) countdown_rank e (ordered name queue)
    ∙ ap (λ x. add countdown_rank x (running_at clock queue)) same ∙ ap (add countdown_rank c) s
    ∙ sym (put_is_add countdown_rank c before r)

pub index_added : (e : Deadline) (index : List RunningTimer) (queue : List Deadline) → at name (name e) queue ≡ None
    → IsDeadlineIndex index queue
    → IsDeadlineIndex (add index_rank (as_running e) index) (add moment e queue)
index_added e index queue a i =
    ap (add index_rank (as_running e)) i ∙ sym (map-add as_running index_rank e (ordered name queue))
    ∙ ap (map as_running) (sym (ordered-add moment name e queue a))

-- what a removal and an addition keep
pub record Keeps (clock : ℕ) (index : List RunningTimer) (queue : List Deadline) : Type 0 where
  pub queued : IsQueue queue
  pub late : AreLate clock queue
  pub indexed : IsDeadlineIndex index queue

pub keeps_without : (clock : ℕ) (r : ℕ) (e : Deadline) (index : List RunningTimer) (queue : List Deadline) → IsQueue queue
    → AreLate clock queue → IsDeadlineIndex index queue
    → at name r queue ≡ Some e → Keeps clock (without index_rank r index) (without name r queue)
keeps_without clock r e index queue h l i a = record {
  queued = queue_without r e queue h a;
  late = every-without (λ e. clock < e.deadline) name r queue l;
  indexed = index_without r e index queue h i a;
}

pub keeps_added : (clock : ℕ) (e : Deadline) (index : List RunningTimer) (queue : List Deadline) → IsQueue queue
    → AreLate clock queue → IsDeadlineIndex index queue
    → at name (name e) queue ≡ None → clock < e.deadline → Keeps clock (add index_rank (as_running e) index) (add moment e queue)
keeps_added clock e index queue h l i a lt = record {
  queued = added e queue h a;
  late = every-add (λ e. clock < e.deadline) moment e queue lt l;
  indexed = index_added e index queue a i;
}

-- the first of the queue
pub record IsFirst (clock : ℕ) (e : Deadline) (index : List RunningTimer) (queue : List Deadline) : Type 0 where
  pub queued : IsQueue (drop 1 queue)
  pub indexed : IsDeadlineIndex (without index_rank (rank e.timer) index) (drop 1 queue)
  pub rest : e.deadline ≤ clock → later_than clock queue ≡ later_than clock (drop 1 queue)
  pub all : clock < e.deadline → later_than clock queue ≡ queue
  pub fewer : length (drop 1 queue) < length queue

pub first_leaves : (clock : ℕ) (e : Deadline) (index : List RunningTimer) (queue : List Deadline) → IsQueue queue
    → IsDeadlineIndex index queue → lowest queue ≡ Some e → IsFirst clock e index queue
first_leaves clock e index [] h i f = absurd (cc)
first_leaves clock e index (y ∷ ys) h i f =
    let same : y ≡ e = cc in
    subst (λ z. IsFirst clock z index (y ∷ ys)) same record {
      queued = record { rising = h.rising.1; distinct = h.distinct.1 };
      indexed = ap (without index_rank (name y)) i ∙ sym (map-without as_running index_rank (name y) (add name y (ordered name ys))) ∙ ap (map as_running) (without-add name (name y) y (ordered name ys) refl);
      rest = λ le. (let now : nat_le y.deadline clock ≡ true = grind (arith, nat_tests) in rw now refl);
      all = λ lt. (let later : nat_le y.deadline clock ≡ false = grind (arith, nat_tests) in rw later refl);
      fewer = omega arith;
    }
