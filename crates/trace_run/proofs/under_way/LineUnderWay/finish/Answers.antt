use Rattle.std.proofs.Common.{[], arith, rules}
use Rattle.std.proofs.lemmas.Grind.{common_steps}
use Rattle.std.proofs.lemmas.Bool.Decides.{nat_tests}
use Rattle.trace_run.specs.OctetLaws.{Appends-nil}
use Rattle.trace_progress.specs.TextLaws.{nil-from_length}
use Rattle.trace_run.proofs.Feeding.{PlaysEach-none, PlaysEach-one}
use Rattle.trace_run.proofs.under_way.LineUnderWay.finish.Goals as goal

pub returns-then-is_empty-clause-finishes : goal.returns-then-is_empty-clause-finishes
returns-then-is_empty-clause-finishes g c =
    let old = c.args.self.now in
    let none = nil-from_length old.octets.items (grind (arith, common_steps, nat_tests, old.octets.ok.0)) in
    ([], Appends-nil _, PlaysEach-none g.P.PlaysLines.plays c.args.player.now old.number old.octets.items none)

pub returns-clause-finishes : goal.returns-clause-finishes
returns-clause-finishes g c =
    let old = c.args.self.now in
    let played = c.end_line.ensures.played in (
      played.0,
      played.1,
      PlaysEach-one g.P.PlaysLines.plays c.args.player.now c.end_line.new.player old.number old.octets.items played.0
          c.end_line.result c.requires.ready.0 (search rules) c.end_line.ensures.fault played.2,
    )
