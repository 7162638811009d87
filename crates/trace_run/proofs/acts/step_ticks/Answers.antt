use Rattle.std.proofs.Common.{ℕ, ◌++◌, List, [], Err, refl, sym, ap, ◌∙◌, arith, Bool}
use Rattle.mme_core.specs.World.{World, reply}
use Rattle.mme_core.specs.declared.event.Event.TheVariants as event
use Rattle.trace_progress.specs.Replies.{reply_text}
use Rattle.trace_progress.specs.Effects.{ticked}
use Rattle.trace_run.specs.OctetLaws.{Appends-nil, Appends-then}
use Rattle.trace_run.specs.Watching.{failed_after_play}
use Rattle.trace_run.proofs.Answered.{Puts-after}
use Rattle.trace_run.proofs.Left.{HasTaken-all, HasTaken-ticks, TicksOn-start, TicksOn-tick}
use Rattle.trace_run.proofs.Ticks.{Ticking-start, Ticking-tick, Ticking-refused, Ticking-end, Ticking-front}
use Rattle.trace_run.proofs.acts.step_ticks.Goals as goal

pub returns-in-Ok-false-clause-put : goal.returns-in-Ok-false-clause-put
returns-in-Ok-false-clause-put g c =
    let held = g.W.Write.contents in
    let old = c.args.mme.now in
    let mid = c.loop-tick.mme in
    let new = c.step_event.new.mme in
    let before = c.loop-tick.invariant in
    let put = c.in-Ok-false.ensures.put in
    let refused = sym c.in-Ok-false.ensures.taken ∙ c.in-Ok-false.field-0-test in
    let all = Ticking-refused old mid new c.loop-tick._tick c.args.count before.0 put.0 before.2 (omega arith) refused c.in-Ok-false.ensures.after put.2 in (
      before.0 ++ put.0,
      Appends-then (held c.args.writer.now.inner) (held c.loop-tick.writer.inner)
          (held c.step_event.new.writer.inner) before.0 put.0 before.1 put.1,
      ap (λ (v : World × List ℕ). v.1) (sym all),
    )

pub returns-in-Ok-false-clause-after : goal.returns-in-Ok-false-clause-after
returns-in-Ok-false-clause-after g c =
    let before = c.loop-tick.invariant in
    let put = c.in-Ok-false.ensures.put in
    let refused = sym c.in-Ok-false.ensures.taken ∙ c.in-Ok-false.field-0-test in
    ap (λ (v : World × List ℕ). v.0) (sym (Ticking-refused c.args.mme.now c.loop-tick.mme c.step_event.new.mme c.loop-tick._tick c.args.count before.0 put.0 before.2 (omega arith) refused c.in-Ok-false.ensures.after put.2))

pub returns-in-Ok-false-clause-write_failed : goal.returns-in-Ok-false-clause-write_failed
returns-in-Ok-false-clause-write_failed g c = c.in-Ok-false.ensures.write_failed ∙ c.loop-tick.invariant.3

pub returns-in-Err-clause-write_failed : goal.returns-in-Err-clause-write_failed
returns-in-Err-clause-write_failed g c =
    c.in-Err.ensures.write_failed
    ∙ ap (λ failed. failed_after_play {A = Unit {0}} failed (Err c.in-Err.fault)) c.loop-tick.invariant.3

pub returns-in-Err-clause-put : goal.returns-in-Err-clause-put
returns-in-Err-clause-put g c =
    let held = g.W.Write.contents in
    let old = c.args.mme.now in
    let mid = c.loop-tick.mme in
    let before = c.loop-tick.invariant in
    let put = c.in-Err.ensures.put in
    let text = reply_text (reply mid event.Tick) in (
      before.0 ++ put.0,
      Appends-then (held c.args.writer.now.inner) (held c.loop-tick.writer.inner)
          (held c.step_event.new.writer.inner) before.0 put.0 before.1 put.1,
      Puts-after Bool (Unit {0}) before.0 text ((ticked c.args.count old).1) put.0 c.in-Err.fault
          (Ticking-front old mid c.loop-tick._tick c.args.count before.0 before.2 (omega arith)) put.2,
    )

pub loop-tick-preserved : goal.loop-tick-preserved
loop-tick-preserved g c =
    let held = g.W.Write.contents in
    let old = c.args.mme.now in
    let mid = c.loop-tick.mme in
    let new = c.step_event.new.mme in
    let before = c.loop-tick.invariant in
    let put = c.in-Ok-true.ensures.put in (
      before.0 ++ put.0,
      Appends-then (held c.args.writer.now.inner) (held c.loop-tick.writer.inner)
          (held c.step_event.new.writer.inner) before.0 put.0 before.1 put.1,
      Ticking-tick old mid new c.loop-tick._tick before.0 put.0 before.2
          (sym c.in-Ok-true.ensures.taken ∙ c.in-Ok-true.field-0-test) c.in-Ok-true.ensures.after put.2,
      c.in-Ok-true.ensures.write_failed ∙ before.3,
      TicksOn-tick old mid new c.loop-tick._tick before.4
          (sym c.in-Ok-true.ensures.taken ∙ c.in-Ok-true.field-0-test) c.in-Ok-true.ensures.after,
    )

pub returns-clause-put : goal.returns-clause-put
returns-clause-put g c =
    let before = c.loop-tick.invariant in
    let all = Ticking-end c.args.mme.now c.loop-tick.mme c.loop-tick._tick c.args.count before.0 before.2 (omega arith) in
    (before.0, before.1, ap (λ (v : World × List ℕ). v.1) (sym all))

pub returns-clause-write_failed : goal.returns-clause-write_failed
returns-clause-write_failed g c = c.loop-tick.invariant.3

pub returns-clause-after : goal.returns-clause-after
returns-clause-after g c =
    let before = c.loop-tick.invariant in
    ap (λ (v : World × List ℕ). v.0)
    (sym (Ticking-end c.args.mme.now c.loop-tick.mme c.loop-tick._tick c.args.count before.0 before.2 (omega arith)))

pub returns-in-Ok-false-clause-left : goal.returns-in-Ok-false-clause-left
returns-in-Ok-false-clause-left g c =
    HasTaken-ticks c.args.mme.now c.loop-tick.mme c.step_event.new.mme c.loop-tick._tick c.args.count c.loop-tick.invariant.4
    (omega arith) c.in-Ok-false.ensures.left

pub returns-in-Err-clause-left : goal.returns-in-Err-clause-left
returns-in-Err-clause-left g c =
    HasTaken-ticks c.args.mme.now c.loop-tick.mme c.step_event.new.mme c.loop-tick._tick c.args.count c.loop-tick.invariant.4
    (omega arith) c.in-Err.ensures.left

pub returns-clause-left : goal.returns-clause-left
returns-clause-left g c =
    HasTaken-all c.args.mme.now c.loop-tick.mme c.loop-tick._tick c.args.count c.loop-tick.invariant.4 (omega arith)

pub loop-tick-init : goal.loop-tick-init
loop-tick-init g c = ([], Appends-nil _, Ticking-start c.args.mme.now, refl, TicksOn-start c.args.mme.now)
