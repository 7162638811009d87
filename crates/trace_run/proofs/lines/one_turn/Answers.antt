use Rattle.std.proofs.Common.{◌++◌, [], append-nil}
use Rattle.trace_run.specs.OctetLaws.{Appends-then, Appends-keeps, Appends-same}
use Rattle.trace_run.proofs.Feeding.{Feeds-write}
use Rattle.trace_run.proofs.lines.one_turn.Goals as goal

pub returns-then-is_err-clause-feeds : goal.returns-then-is_err-clause-feeds
returns-then-is_err-clause-feeds g c =
    let held = g.W.Write.contents in
    let first = held c.args.writer.now.inner in
    let mid = held c.feed-result.new.writer.inner in
    let last = held c.flush.new.self.inner in
    let feeds = c.feed-result.ensures.feeds in (
      feeds.0,
      Appends-same first last (feeds.0 ++ []) feeds.0 (append-nil feeds.0)
          (Appends-then first mid last feeds.0 [] feeds.1 (Appends-keeps mid last c.flush.ensures.bytes)),
      Feeds-write g.P.PlaysLines.plays c.args.player.now c.feed-result.new.player c.args.line.now c.feed-result.new.self feeds.0
          c.args.piece.now c.feed-result.result feeds.2,
    )
