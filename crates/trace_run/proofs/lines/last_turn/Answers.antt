use Rattle.std.proofs.Common.{◌++◌, [], append-nil}
use Rattle.trace_progress.specs.Text.{lines_of}
use Rattle.trace_run.specs.OctetLaws.{Appends-then, Appends-keeps, Appends-same}
use Rattle.trace_run.proofs.Feeding.{PlaysEach-write}
use Rattle.trace_run.proofs.lines.last_turn.Goals as goal

pub returns-then-is_err-clause-finishes : goal.returns-then-is_err-clause-finishes
returns-then-is_err-clause-finishes g c =
    let held = g.W.Write.contents in
    let first = held c.args.writer.now.inner in
    let mid = held c.finish-result.new.writer.inner in
    let last = held c.flush.new.self.inner in
    let line = c.args.line.now in
    let finishes = c.finish-result.ensures.finishes in (
      finishes.0,
      Appends-same first last (finishes.0 ++ []) finishes.0 (append-nil finishes.0)
          (Appends-then first mid last finishes.0 [] finishes.1 (Appends-keeps mid last c.flush.ensures.bytes)),
      PlaysEach-write g.P.PlaysLines.plays c.args.player.now c.finish-result.new.player line.number (lines_of line.octets.items) finishes.0
          c.finish-result.result finishes.2,
    )
