use Rattle.std.proofs.Common.{◌++◌, [], refl, subst, sym, ◌∙◌, arith}
use Rattle.mme_core.specs.World.{reply}
use Rattle.mme_core.specs.declared.event.Event.TheVariants as event
use Rattle.trace_progress.specs.Effects.{ticked}
use Rattle.trace_progress.specs.Replies.{reply_text}
use Rattle.c_session.specs.Texts.{HasPassed}
use Rattle.c_session.specs.declared.said.LineStop.{LineStop}
use Rattle.c_session.proofs.Saying.{Adds-none, Adds-same, Adds-then}
use Rattle.c_session.proofs.SaidTicks.{Ticking-end, Ticking-refused, Ticking-start, Ticking-tick, ticks_short}
use Rattle.c_session.proofs.said.say_ticks.Goals as goal

pub loop-tick-init : goal.loop-tick-init
loop-tick-init c = ([], Ticking-start c.args.mme.now, Adds-none c.args.room c.args.answers.now.items c.args.answers.now.items refl)

pub loop-tick-preserved : goal.loop-tick-preserved
loop-tick-preserved c =
    let before = c.loop-tick.invariant in
    let mid = c.loop-tick.mme in
    let text = reply_text (reply mid event.Tick) in (
      before.0 ++ text,
      Ticking-tick c.args.mme.now mid c.say_event.new.mme c.loop-tick.tick before.0 before.1
          (sym c.in-Ok-true.ensures.taken ∙ c.in-Ok-true.field-0-test) c.in-Ok-true.ensures.after,
      Adds-then c.args.room c.args.answers.now.items c.loop-tick.answers.items c.say_event.new.answers.items before.0 text before.2
          c.in-Ok-true.ensures.said,
    )

pub returns-in-Ok-false : goal.returns-in-Ok-false
returns-in-Ok-false c =
    let before = c.loop-tick.invariant in
    let mid = c.loop-tick.mme in
    let text = reply_text (reply mid event.Tick) in (
      before.0 ++ text,
      Ticking-refused c.args.mme.now mid c.say_event.new.mme c.loop-tick.tick c.args.count before.0 before.1 (omega arith)
          (sym c.in-Ok-false.ensures.taken ∙ c.in-Ok-false.field-0-test) c.in-Ok-false.ensures.after,
      Adds-then c.args.room c.args.answers.now.items c.loop-tick.answers.items c.say_event.new.answers.items before.0 text before.2
          c.in-Ok-false.ensures.said,
    )

pub returns-in-Err : goal.returns-in-Err
returns-in-Err c =
    let before = c.loop-tick.invariant in
    let old = c.args.mme.now in
    let new = c.say_event.new.mme in
    let replies = c.say_event.new.replies in
    let said = c.say_event.new.answers.items in (
      before.0,
      subst (λ (s : LineStop). HasPassed (λ n. ticked n old) c.args.count s c.args.room said new replies before.0) (sym c.stopped.ensures)
          (ticks_short old c.loop-tick.mme new c.loop-tick.tick c.args.count c.args.room before.0 c.loop-tick.answers.items said c.in-Err.short
          replies before.1 (omega arith) c.in-Err.ensures.short c.in-Err.ensures.unsaid),
      Adds-same c.args.room c.args.answers.now.items before.0 c.loop-tick.answers.items said before.2 c.in-Err.ensures.unsaid,
    )

pub returns : goal.returns
returns c =
    let before = c.loop-tick.invariant in (
      before.0,
      Ticking-end c.args.mme.now c.loop-tick.mme c.loop-tick.tick c.args.count before.0 before.1 (omega arith),
      before.2,
    )
