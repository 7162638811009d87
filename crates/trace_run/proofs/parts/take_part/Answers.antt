use Rattle.std.proofs.Common.{◌++◌, length, take, refl, ap, ◌∙◌, arith, length-append}
use Rattle.std.specs.Option.{unwrap_or}
use Rattle.trace_run.proofs.Unbroken.{part_unbroken, TakesPart-found}
use Rattle.trace_run.proofs.parts.take_part.Goals as goal

pub returns-then-part-len : goal.returns-then-part-len
returns-then-part-len c =
    let old = c.args.line.now.items in
    let piece = c.args.piece.now in
    let count = unwrap_or c.memchr-end.result (length piece) in
    let unbroken = part_unbroken piece c.memchr-end.result c.memchr-end.ensures in
    let same = ap (λ n. take n piece) c.unwrap_or.ensures in
    (refl, refl, (count, unbroken, omega (arith, c.requires, c.if-part-len.true, ap length same, c.len.ensures, c.args.line.now.ok.0, length-append old (take count piece))), refl)

pub returns-in-Ok : goal.returns-in-Ok
returns-in-Ok c =
    let old = c.args.line.now.items in
    let piece = c.args.piece.now in
    let count = unwrap_or c.memchr-end.result (length piece) in
    let same = ap (λ n. take n piece) c.unwrap_or.ensures in
    let new = c.in-Ok.ensures.items in
    let grown = new ∙ ap (λ v. old ++ v) same in
    TakesPart-found c.args.number old piece c.extend_from_slice.new.self.items c.memchr-end.result c.memchr-end.ensures grown
    (omega (arith, c.requires, c.if-part-len.false, ap length same, c.len.ensures, c.args.line.now.ok.0, ap length grown, length-append old (take count piece)))
