use Rattle.std.proofs.Common.{sym, ◌∙◌, arith}
use Rattle.timer_queue.specs.Rank.{rank}
use Rattle.timer_queue.proofs.Changes.{rank_small}
use Rattle.timer_queue.proofs.Ticks.{moment_fits, walk_begins, walk_goes, walk_shorter, walk_stops, walk_ends}
use Rattle.timer_queue.proofs.queue.due_at.Goals as goal
use Rattle.timer_queue.proofs.queue.due_at.Goals.{in-Some+then-entry-clock, in_default}

pub loop-entry-init : goal.loop-entry-init
loop-entry-init c = walk_begins c.args.clock c.new-due.result.items c.args.queue.now.items c.new-due.ensures.items

pub overflow_add-least : goal.overflow_add-least
overflow_add-least c =
    let t = c.if-entry-clock.false in
    let is = c.moment-least.ensures in
    let fits =
    moment_fits c.in-Some.entry.deadline (rank c.in-Some.entry.timer) c.args.clock (omega (arith, t)) c.requires.small
    (rank_small c.in-Some.entry.timer) in
    omega arith

pub loop-entry-smaller : goal.loop-entry-smaller
loop-entry-smaller c =
    walk_shorter c.loop-entry.least c.moment-least.result c.in-Some.entry c.args.queue.now.items c.requires.rising
    (sym c.first_from.ensures ∙ c.in-Some.is) c.moment-least.ensures

pub loop-entry-preserved : goal.loop-entry-preserved
loop-entry-preserved c =
    let t = c.if-entry-clock.false in
    walk_goes c.args.clock c.loop-entry.least c.moment-least.result c.in-Some.entry c.loop-entry.due.items c.push.new.self.items c.args.queue.now.items c.requires.rising (sym c.first_from.ensures ∙ c.in-Some.is)
    (omega (arith, t)) c.moment-least.ensures c.in_ok-push.ensures.items c.loop-entry.invariant

pub returns : goal.returns
returns c = elim c.match-first_from.branch [
  | in-Some+then-entry-clock w ↦ let t = w.if-entry-clock.true in
      walk_stops c.args.clock c.loop-entry.least w.in-Some.entry c.loop-entry.due.items c.args.queue.now.items c.requires.rising
      (sym c.first_from.ensures ∙ w.in-Some.is) (omega (arith, t)) c.loop-entry.invariant
  | in_default w ↦ walk_ends c.args.clock c.loop-entry.least c.loop-entry.due.items c.args.queue.now.items (sym c.first_from.ensures ∙ w.in_default.is) c.loop-entry.invariant
]
