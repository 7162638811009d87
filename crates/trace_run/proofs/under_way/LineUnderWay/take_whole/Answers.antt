use Rattle.std.proofs.Common.{◌+◌, [], ◌∷◌, ◌++◌, take, drop, Ok, Err, refl, sym, ap, ◌∙◌, arith}
use Rattle.std.proofs.lemmas.List.{take_more}
use Rattle.trace_progress.specs.TextLaws.{split_at}
use Rattle.trace_run.proofs.Feeding.{EndsLines-whole, EndsLines-left, Feeds-line, Feeds-fault, Feeds-stop, Feeds-piece}
use Rattle.trace_run.proofs.under_way.LineUnderWay.take_whole.Goals as goal

pub returns-in-Ok-clause-feeds : goal.returns-in-Ok-clause-feeds
returns-in-Ok-clause-feeds g c =
    let plays = g.P.PlaysLines.plays in
    let first = c.args.player.now in
    let last = c.play_line.new.self in
    let old = c.args.self.now in
    let new = c.next_line.new.self in
    let piece = c.args.piece.now in
    let end = c.args.end in
    let whole = c.requires.whole in
    let text = take end piece in
    let played = c.in-Ok.ensures.played in
    let ends = EndsLines-left [] old.octets.items (text ++ 10 ∷ []) [] [] (text ∷ []) (sym whole.0) refl (EndsLines-whole text whole.3) in
    let done =
    Feeds-line plays first last old new played.0 (text ++ 10 ∷ []) text ends played.2 c.next_line.ensures.number c.next_line.ensures.octets in
    let same = ap (λ octet. text ++ octet ∷ []) (sym whole.2) ∙ sym (take_more piece end 0 whole.1) in (
      played.0,
      played.1,
      (omega arith, omega (arith, whole.1), Feeds-piece plays first last old new played.0 _ (take (end + 1) piece) (Ok tt) same done),
    )

pub returns-in-Err-clause-feeds : goal.returns-in-Err-clause-feeds
returns-in-Err-clause-feeds g c =
    let plays = g.P.PlaysLines.plays in
    let first = c.args.player.now in
    let last = c.play_line.new.self in
    let old = c.args.self.now in
    let piece = c.args.piece.now in
    let end = c.args.end in
    let whole = c.requires.whole in
    let text = take end piece in
    let fault = c.in-Err.fault in
    let played = c.in-Err.ensures.played in
    let ends = EndsLines-left [] old.octets.items (text ++ 10 ∷ []) [] [] (text ∷ []) (sym whole.0) refl (EndsLines-whole text whole.3) in
    let done = Feeds-fault plays first last old old played.0 (text ++ 10 ∷ []) text fault ends c.in-Err.ensures.fault played.2 in (
      played.0,
      played.1,
      Feeds-piece plays first last old old played.0 _ piece (Err fault) (sym (split_at piece end 10 whole.1 (sym whole.2)))
          (Feeds-stop plays first last old old played.0 (text ++ 10 ∷ []) (drop (end + 1) piece) fault done),
    )
