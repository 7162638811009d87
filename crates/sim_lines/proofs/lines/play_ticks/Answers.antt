use Rattle.std.proofs.Common.{◌≡◌, ℕ, [], inl, inr, refl, subst, arith}
use Rattle.mme_core.specs.declared.event.Event.TheVariants.{Tick}
use Rattle.sim_lines.proofs.Printing.{PrintsOn-none, PrintsOn-then}
use Rattle.sim_lines.proofs.Further.{played, stays, stopped, then_on}
use Rattle.trace_words.specs.declared.line.Line.TheVariants as line
use Rattle.trace_words.specs.Trace.{line_text}
use Rattle.sim_lines.specs.Turns.{scene_of}
use Rattle.sim_lines.specs.Plays.{TakesTicks}
use Rattle.sim_lines.proofs.Playing.{StopsTicks-met, TakesTicks-more, sending-is}
use Rattle.sim_lines.proofs.lines.play_ticks.Goals as goal

pub loop-tick-init : goal.loop-tick-init
loop-tick-init c = record {
  printed = PrintsOn-none c.args.script.now.progress c.args.out.now.items c.requires;
  goes = stays;
  taken = refl;
}

pub returns-in_err-sent-clause-goes : goal.returns-in_err-sent-clause-goes
returns-in_err-sent-clause-goes c =
    then_on c.loop-tick.invariant.goes (stopped Tick c.in_err-sent.ensures.stops c.in_err-sent.ensures.err)

pub returns-then-is_none-clause-printed : goal.returns-then-is_none-clause-printed
returns-then-is_none-clause-printed c =
    PrintsOn-then c.args.script.now.progress c.loop-tick.script.progress c.play_tick.new.progress
    c.args.out.now.items c.loop-tick.out.items c.play_tick.new.out.items [] c.loop-tick.invariant.printed c.in_ok-sent.ensures.printed

pub returns-then-is_none-clause-goes : goal.returns-then-is_none-clause-goes
returns-then-is_none-clause-goes c =
    then_on c.loop-tick.invariant.goes (played Tick [] c.loop-tick.invariant.printed.0 c.in_ok-sent.ensures.printed c.in_ok-sent.ensures.after)

pub returns-in_err-play_answers-clause-goes : goal.returns-in_err-play_answers-clause-goes
returns-in_err-play_answers-clause-goes c =
    then_on (then_on c.loop-tick.invariant.goes
    (played Tick [] c.loop-tick.invariant.printed.0 c.in_ok-sent.ensures.printed c.in_ok-sent.ensures.after)) c.in_err-play_answers.ensures.goes

pub loop-tick-preserved : goal.loop-tick-preserved
loop-tick-preserved c =
    let first = c.args.script.now.progress in
    let before = c.args.out.now.items in
    let passed = c.play_tick.new.progress in
    let mid = c.play_tick.new.out.items in
    record {
      printed =
          PrintsOn-then first passed c.play_answers.new.script.progress before mid c.play_answers.new.out.items []
          (PrintsOn-then first c.loop-tick.script.progress passed before c.loop-tick.out.items mid [] c.loop-tick.invariant.printed
          c.in_ok-sent.ensures.printed)
          c.in_ok-play_answers.ensures.printed;
      goes =
          then_on (then_on c.loop-tick.invariant.goes
          (played Tick [] c.loop-tick.invariant.printed.0 c.in_ok-sent.ensures.printed c.in_ok-sent.ensures.after)) c.in_ok-play_answers.ensures.goes;
      taken =
          TakesTicks-more c.loop-tick._tick (scene_of c.args.script.now before) (scene_of c.loop-tick.script c.loop-tick.out.items)
          (scene_of c.play_answers.new.script c.play_answers.new.out.items) passed c.loop-tick.script.crowd mid c.in_ok-sent.sent
          c.loop-tick.invariant.taken
          (sending-is Tick (line_text (line.Tick 1)) c.loop-tick.script.progress passed c.loop-tick.script.crowd c.loop-tick.out.items mid
          c.in_ok-sent.sent c.loop-tick.invariant.printed.0 c.in_ok-sent.ensures.sent c.in_ok-sent.ensures.after
          c.in_ok-sent.ensures.shown)
          c.if-is_none.ensures c.in_ok-play_answers.ensures.plays;
    }

pub returns-then-is_none-clause-plays : goal.returns-then-is_none-clause-plays
returns-then-is_none-clause-plays c =
    let mid = c.loop-tick.script in
    let passed = c.play_tick.new.progress in
    let page = c.play_tick.new.out.items in
    let sent = c.in_ok-sent.sent in
    inr (StopsTicks-met c.args.count c.loop-tick._tick (scene_of c.args.script.now c.args.out.now.items)
    (scene_of mid c.loop-tick.out.items) passed mid.crowd page sent c.loop-tick-test.true c.loop-tick.invariant.taken
    (sending-is Tick (line_text (line.Tick 1)) mid.progress passed mid.crowd c.loop-tick.out.items page sent
    c.loop-tick.invariant.printed.0 c.in_ok-sent.ensures.sent c.in_ok-sent.ensures.after c.in_ok-sent.ensures.shown)
    c.if-is_none.ensures)

pub returns-clause-plays : goal.returns-clause-plays
returns-clause-plays c =
    let all : c.loop-tick._tick ≡ c.args.count = omega arith in
    let first = scene_of c.args.script.now c.args.out.now.items in
    let last = scene_of c.loop-tick.script c.loop-tick.out.items in
    inl (subst (λ (n : ℕ). TakesTicks n first last) all c.loop-tick.invariant.taken)
