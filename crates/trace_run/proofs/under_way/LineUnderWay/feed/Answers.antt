use Rattle.std.proofs.Common.{[], ◌++◌, length, take, Ok, Err, refl, sym, ap, ◌∙◌, append_assoc, append-nil, arith, length-append}
use Rattle.std.specs.Prelude.{slice_range}
use Rattle.trace_run.specs.PartLaws.{rest_follows}
use Rattle.trace_run.specs.OctetLaws.{Appends-nil, Appends-then}
use Rattle.trace_run.specs.Watching.{failed_after_play}
use Rattle.trace_progress.specs.TextLaws.{breaks-le, nil-from_length}
use Rattle.trace_run.proofs.Feeding.{Feeds-none, Feeds-then, Feeds-piece}
use Rattle.trace_run.proofs.under_way.LineUnderWay.feed.Goals as goal

pub take_front-requires-clause-ready : goal.take_front-requires-clause-ready
take_front-requires-clause-ready g c = c.loop-rest.invariant.2.2.3

pub take_front-requires-clause-counted : goal.take_front-requires-clause-counted
take_front-requires-clause-counted g c =
    let before = c.loop-rest.invariant in
    omega (arith, breaks-le before.0, ap length before.1, length-append before.0 c.loop-rest.rest.now, before.2.2.4, before.2.2.2.1)

pub returns-in-Err-clause-feeds : goal.returns-in-Err-clause-feeds
returns-in-Err-clause-feeds g c =
    let held = g.W.Write.contents in
    let plays = g.P.PlaysLines.plays in
    let rest = c.loop-rest.rest.now in
    let first = c.args.player.now in
    let old = c.args.self.now in
    let new = c.take_front.new.self in
    let before = c.loop-rest.invariant in
    let added = c.in-Err.ensures.feeds in
    let result = Err c.in-Err.fault in (
      before.2.0 ++ added.0,
      Appends-then (held c.args.writer.now.inner) (held c.loop-rest.writer.inner)
          (held c.take_front.new.writer.inner) before.2.0 added.0 before.2.1 added.1,
      Feeds-piece plays first c.take_front.new.player old new (before.2.0 ++ added.0) _ c.args.piece.now result before.1
          (Feeds-then plays first c.loop-rest.player c.take_front.new.player old c.loop-rest.self new before.2.0 added.0 before.0 rest
          result before.2.2 added.2),
    )

pub returns-in-Err-clause-write_failed : goal.returns-in-Err-clause-write_failed
returns-in-Err-clause-write_failed g c =
    c.in-Err.ensures.write_failed
    ∙ ap (λ failed. failed_after_play {A = Unit {0}} failed (Err c.in-Err.fault)) c.loop-rest.invariant.3

pub returns-clause-write_failed : goal.returns-clause-write_failed
returns-clause-write_failed g c = c.loop-rest.invariant.3

pub loop-rest-preserved : goal.loop-rest-preserved
loop-rest-preserved g c =
    let held = g.W.Write.contents in
    let count = c.in-Ok.count in
    let rest = c.loop-rest.rest.now in
    let before = c.loop-rest.invariant in
    let added = c.in-Ok.ensures.feeds in (
      before.0 ++ take count rest,
      append_assoc before.0 (take count rest) (slice_range rest count (length rest))
          ∙ ap (λ v. before.0 ++ v) (rest_follows count rest) ∙ before.1,
      (
        before.2.0 ++ added.0,
        Appends-then (held c.args.writer.now.inner) (held c.loop-rest.writer.inner)
            (held c.take_front.new.writer.inner) before.2.0 added.0 before.2.1 added.1,
        Feeds-then g.P.PlaysLines.plays c.args.player.now c.loop-rest.player c.take_front.new.player c.args.self.now c.loop-rest.self
            c.take_front.new.self before.2.0 added.0 before.0 (take count rest) (Ok tt) before.2.2 added.2.2,
      ),
      c.in-Ok.ensures.write_failed ∙ before.3,
    )

pub loop-rest-init : goal.loop-rest-init
loop-rest-init g c =
    ([], refl, ([], Appends-nil _, Feeds-none g.P.PlaysLines.plays c.args.player.now c.args.self.now c.requires.ready), refl)

pub returns-clause-feeds : goal.returns-clause-feeds
returns-clause-feeds g c =
    let before = c.loop-rest.invariant in
    let all =
    sym (append-nil before.0) ∙ ap (λ v. before.0 ++ v) (sym (nil-from_length c.loop-rest.rest.now (omega arith))) ∙ before.1 in (
      before.2.0,
      before.2.1,
      Feeds-piece g.P.PlaysLines.plays c.args.player.now c.loop-rest.player c.args.self.now c.loop-rest.self before.2.0 before.0
          c.args.piece.now (Ok tt) all before.2.2,
    )
