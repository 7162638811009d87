use Rattle.std.proofs.Common.{◌+◌, [], ◌∷◌, ◌++◌, length, take, drop, Ok, Err, refl, sym, ap, ◌∙◌, arith}
use Rattle.std.proofs.lemmas.List.{take_more, take_all}
use Rattle.trace_run.specs.OctetLaws.{Appends-nil}
use Rattle.trace_progress.specs.TextLaws.{split_at}
use Rattle.trace_run.specs.declared.under_way.LineUnderWay.{LineUnderWay}
use Rattle.trace_run.proofs.Feeding.{EndsLines-line, Feeds-part, Feeds-part_fault, Feeds-line, Feeds-fault, Feeds-then, Feeds-stop, Feeds-piece, failed-part}
use Rattle.trace_run.proofs.under_way.LineUnderWay.go_on.Goals as goal

pub end_line-requires-clause-unbroken : goal.end_line-requires-clause-unbroken
end_line-requires-clause-unbroken g c =
    let old = c.args.self.now in
    let mid : LineUnderWay = record { number = old.number; octets = c.take_part.new.line } in
    let found = rw c.in-Ok-Some.field-0-is at c.in-Ok-Some.ensures in
    (Feeds-part g.P.PlaysLines.plays c.args.player.now old mid _ c.requires.ready refl found.2).3.0

pub returns-in-Ok-None-clause-feeds : goal.returns-in-Ok-None-clause-feeds
returns-in-Ok-None-clause-feeds g c =
    let plays = g.P.PlaysLines.plays in
    let player = c.args.player.now in
    let old = c.args.self.now in
    let new : LineUnderWay = record { number = old.number; octets = c.take_part.new.line } in
    let piece = c.args.piece.now in
    let taken = Feeds-part plays player old new piece c.requires.ready refl (rw c.in-Ok-None.field-0-is at c.in-Ok-None.ensures) in
    let same = sym (take_all (length piece) piece (omega arith)) in
    ([], Appends-nil _, (c.requires.some, omega arith, Feeds-piece plays player player old new [] piece _ (Ok tt) same taken))

pub returns-in-Ok-clause-feeds : goal.returns-in-Ok-clause-feeds
returns-in-Ok-clause-feeds g c =
    let plays = g.P.PlaysLines.plays in
    let player = c.args.player.now in
    let last = c.end_line.new.player in
    let old = c.args.self.now in
    let mid : LineUnderWay = record { number = old.number; octets = c.take_part.new.line } in
    let new = c.end_line.new.self in
    let piece = c.args.piece.now in
    let end = c.in-Ok-Some.end in
    let found = rw c.in-Ok-Some.field-0-is at c.in-Ok-Some.ensures in
    let part = take end piece in
    let begun = Feeds-part plays player old mid part c.requires.ready refl found.2 in
    let played = c.in-Ok.ensures.played in
    let ended =
    Feeds-line plays player last mid new played.0 (10 ∷ []) mid.octets.items (EndsLines-line mid.octets.items begun.3.0) played.2
    c.in-Ok.ensures.number c.in-Ok.ensures.octets in
    let whole = Feeds-then plays player player last old mid new [] played.0 part (10 ∷ []) (Ok tt) begun ended in
    let same = ap (λ octet. part ++ octet ∷ []) (sym found.1) ∙ sym (take_more piece end 0 found.0) in (
      played.0,
      played.1,
      (omega arith, omega (arith, found.0), Feeds-piece plays player last old new played.0 _ (take (end + 1) piece) (Ok tt) same whole),
    )

pub returns-in-Err-end_line-clause-feeds : goal.returns-in-Err-end_line-clause-feeds
returns-in-Err-end_line-clause-feeds g c =
    let plays = g.P.PlaysLines.plays in
    let player = c.args.player.now in
    let last = c.end_line.new.player in
    let old = c.args.self.now in
    let mid : LineUnderWay = record { number = old.number; octets = c.take_part.new.line } in
    let new = c.end_line.new.self in
    let piece = c.args.piece.now in
    let end = c.in-Ok-Some.end in
    let found = rw c.in-Ok-Some.field-0-is at c.in-Ok-Some.ensures in
    let part = take end piece in
    let fault = c.in-Err-end_line.fault in
    let begun = Feeds-part plays player old mid part c.requires.ready refl found.2 in
    let played = c.in-Err-end_line.ensures.played in
    let ended =
    Feeds-fault plays player last mid new played.0 (10 ∷ []) mid.octets.items fault
    (EndsLines-line mid.octets.items begun.3.0) c.in-Err-end_line.ensures.fault played.2 in
    let whole = Feeds-then plays player player last old mid new [] played.0 part (10 ∷ []) (Err fault) begun ended in (
      played.0,
      played.1,
      Feeds-piece plays player last old new played.0 _ piece (Err fault) (sym (split_at piece end 10 found.0 (sym found.1)))
          (Feeds-stop plays player last old new played.0 (part ++ 10 ∷ []) (drop (end + 1) piece) fault whole),
    )

pub returns-in-Err-clause-write_failed : goal.returns-in-Err-clause-write_failed
returns-in-Err-clause-write_failed g c =
    failed-part c.args.writer.now.failed c.args.self.now.number c.args.self.now.octets.items c.args.piece.now
    c.take_part.new.line.items c.in-Err.fault c.in-Err.ensures

pub returns-in-Err-clause-feeds : goal.returns-in-Err-clause-feeds
returns-in-Err-clause-feeds g c =
    let old = c.args.self.now in
    let new : LineUnderWay = record { number = old.number; octets = c.take_part.new.line } in (
      [],
      Appends-nil _,
      Feeds-part_fault g.P.PlaysLines.plays c.args.player.now old new c.args.piece.now c.take_part.new.line.items c.in-Err.fault
          c.requires.ready c.in-Err.ensures,
    )
