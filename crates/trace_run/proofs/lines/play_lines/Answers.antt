use Rattle.std.proofs.Common.{[], Err, take, refl, sym, ap, ◌∙◌, arith, rules}
use Rattle.std.proofs.lemmas.List.{length-take}
use Rattle.trace_run.specs.OctetLaws.{Consumes-same, Keeps-same}
use Rattle.trace_run.specs.Watching.{failed_after_play, OnOk-always, moves_none-some}
use Rattle.trace_progress.specs.TextLaws.{breaks-le}
use Rattle.trace_run.proofs.Running.{Running-start, Running-turn, PlaysRead-fault, PlaysRead-end, PlaysRead-read}
use Rattle.trace_run.proofs.lines.play_lines.Goals as goal

pub returns-in_default-clause-played : goal.returns-in_default-clause-played
returns-in_default-clause-played g c =
    let left = g.R.Read.remaining in
    let held = g.W.Write.contents in
    PlaysRead-read g.P.PlaysLines.plays c.args.player.now c.loop-turn.player c.loop-turn.line
    (left c.args.reader.now.inner) (left c.loop-turn.reader.inner) (left c.read.new.self.inner)
    (held c.args.writer.now.inner) (held c.loop-turn.writer.inner)
    c.loop-turn.invariant.running c.in_default.ensures.bytes c.read.new.self.ended

pub returns-then-count-eq0-clause-played : goal.returns-then-count-eq0-clause-played
returns-then-count-eq0-clause-played g c =
    let left = g.R.Read.remaining in
    let held = g.W.Write.contents in
    let mid = left c.loop-turn.reader.inner in
    let last = left c.read.new.self.inner in
    let none =
    Consumes-same mid last (take c.in-Ok.count c.read.new.buf) []
    (ap (λ n. take n c.read.new.buf) c.if-count-eq0.true) c.in-Ok.ensures.bytes.0 in
    let turn = c.last_turn.ensures.finishes in
    let end =
    c.in-Ok.ensures.ended ∙ moves_none-some c.loop-turn.reader.ended _ c.in-Ok.count c.if-count-eq0.true (search rules) in
    PlaysRead-end g.P.PlaysLines.plays c.args.player.now c.loop-turn.player c.last_turn.new.player c.loop-turn.line
    (left c.args.reader.now.inner) mid last (held c.args.writer.now.inner) (held c.loop-turn.writer.inner)
    (held c.last_turn.new.writer.inner) c.loop-turn.invariant.running none turn.0 turn.1
    c.read.new.self.ended c.last_turn.result end turn.2

pub returns-then-count-eq0-clause-end : goal.returns-then-count-eq0-clause-end
returns-then-count-eq0-clause-end g c =
    OnOk-always c.last_turn.result (c.in-Ok.ensures.bytes.1 c.if-count-eq0.true (search rules))

pub returns-in-Err-clause-played : goal.returns-in-Err-clause-played
returns-in-Err-clause-played g c =
    let left = g.R.Read.remaining in
    let held = g.W.Write.contents in
    let turn = c.in-Err.ensures.feeds in
    PlaysRead-fault g.P.PlaysLines.plays c.args.player.now c.loop-turn.player c.loop-turn.line
    (left c.args.reader.now.inner) (left c.loop-turn.reader.inner) (left c.read.new.self.inner)
    (held c.args.writer.now.inner) (held c.loop-turn.writer.inner) (held c.one_turn.new.writer.inner)
    c.loop-turn.invariant.running (take c.in-Ok.count c.read.new.buf) turn.0 c.in-Ok.ensures.bytes.0 turn.1
    c.one_turn.new.player c.one_turn.new.line c.read.new.self.ended c.in-Err.fault turn.2

pub returns-in_default-clause-write_failed : goal.returns-in_default-clause-write_failed
returns-in_default-clause-write_failed g c = c.loop-turn.invariant.unfailed

pub returns-then-count-eq0-clause-read_failed : goal.returns-then-count-eq0-clause-read_failed
returns-then-count-eq0-clause-read_failed g c = λ was is.
    absurd (cc (sym is ∙ c.in-Ok.ensures.failed ∙ c.loop-turn.invariant.unfailed_read ∙ was))

pub returns-then-count-eq0-clause-write_failed : goal.returns-then-count-eq0-clause-write_failed
returns-then-count-eq0-clause-write_failed g c =
    c.last_turn.ensures.write_failed ∙ ap (λ failed. failed_after_play failed c.last_turn.result) c.loop-turn.invariant.unfailed

pub returns-in-Err-clause-read_failed : goal.returns-in-Err-clause-read_failed
returns-in-Err-clause-read_failed g c = λ was is.
    absurd (cc (sym is ∙ c.in-Ok.ensures.failed ∙ c.loop-turn.invariant.unfailed_read ∙ was))

pub returns-in-Err-clause-write_failed : goal.returns-in-Err-clause-write_failed
returns-in-Err-clause-write_failed g c =
    c.in-Err.ensures.write_failed
    ∙ ap (λ failed. failed_after_play {A = Unit {0}} failed (Err c.in-Err.fault)) c.loop-turn.invariant.unfailed

pub returns-clause-write_failed : goal.returns-clause-write_failed
returns-clause-write_failed g c = c.loop-turn.invariant.unfailed

pub loop-turn-preserved : goal.loop-turn-preserved
loop-turn-preserved g c =
    let left = g.R.Read.remaining in
    let held = g.W.Write.contents in
    let turn = c.in-Ok-one_turn.ensures.feeds in
    let piece = take c.in-Ok.count c.read.new.buf in
    record {
      running = Running-turn g.P.PlaysLines.plays c.args.player.now c.loop-turn.player c.loop-turn.line
          (left c.args.reader.now.inner) (left c.loop-turn.reader.inner) (left c.read.new.self.inner)
          (held c.args.writer.now.inner) (held c.loop-turn.writer.inner) (held c.one_turn.new.writer.inner)
          c.loop-turn.invariant.running piece turn.0 c.in-Ok.ensures.bytes.0 turn.1 c.one_turn.new.player c.one_turn.new.line turn.2;
      short = omega (arith, turn.2.4, turn.2.2.1, breaks-le piece, length-take c.in-Ok.count c.read.new.buf, c.loop-turn.invariant.short);
      calls = λ h. omega (arith, c.loop-turn.invariant.calls h, c.in-Ok.ensures.calls);
      unfailed = c.in-Ok-one_turn.ensures.write_failed ∙ c.loop-turn.invariant.unfailed;
      unfailed_read = c.in-Ok.ensures.failed ∙ c.loop-turn.invariant.unfailed_read;
    }

pub returns-clause-played : goal.returns-clause-played
returns-clause-played g c =
    let left = g.R.Read.remaining in
    let held = g.W.Write.contents in
    let last = left c.loop-turn.reader.inner in
    PlaysRead-read g.P.PlaysLines.plays c.args.player.now c.loop-turn.player c.loop-turn.line
    (left c.args.reader.now.inner) last last (held c.args.writer.now.inner) (held c.loop-turn.writer.inner)
    c.loop-turn.invariant.running (Keeps-same last) c.loop-turn.reader.ended

pub loop-turn-init : goal.loop-turn-init
loop-turn-init g c = record {
  running = Running-start g.P.PlaysLines.plays c.args.player.now (g.R.Read.remaining c.args.reader.now.inner)
      (g.W.Write.contents c.args.writer.now.inner) c.new-line.result c.new-line.ensures.number c.new-line.ensures.octets;
  short = omega (arith, c.new-line.ensures.number);
  calls = λ h. h;
  unfailed = refl;
  unfailed_read = refl;
}
