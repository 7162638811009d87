use Rattle.std.proofs.Common.{◌++◌, ◌^◌, ◌<◌, ◌≤◌, length, codes, refl, arith, length-append}
use Rattle.std.specs.Fmt.{decimal}
use Rattle.std.proofs.lemmas.Fmt.{length-decimal-le}
use Rattle.sim_printing.specs.LineLaws.{decimal_breaks, unbroken_then}
use Rattle.sim_printing.specs.Printed.{dropped_line}
use Rattle.sim_printing.specs.PrintLaws.{AreComments-remark}
use Rattle.sim_printing.proofs.comments.push_dropped.Goals as goal

pub returns-clause-added : goal.returns-clause-added
returns-clause-added c =
    let n = c.args.count in
    let h : n < 2 ^ 64 = omega arith in
    let d : length (decimal n) ≤ 20 = length-decimal-le 20 n (omega arith) (omega arith) h in (
      dropped_line n,
      c.in_ok-push_count.ensures.text,
      AreComments-remark c.comments_are_not_kept.ensures (codes " dropped " ++ decimal n)
          (unbroken_then (codes " dropped ") (decimal n) refl (decimal_breaks n h))
          (omega (arith, d, length-append (codes " dropped ") (decimal n))),
    )
