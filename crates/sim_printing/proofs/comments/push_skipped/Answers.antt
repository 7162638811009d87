use Rattle.std.proofs.Common.{codes, refl, arith}
use Rattle.sim_printing.specs.Printed.{skipped_line}
use Rattle.sim_printing.specs.PrintLaws.{AreComments-remark}
use Rattle.sim_printing.proofs.comments.push_skipped.Goals as goal

pub returns-clause-added : goal.returns-clause-added
returns-clause-added c = (
  skipped_line,
  c.in_ok-extend_from_slice.ensures.items,
  AreComments-remark c.comments_are_not_kept.ensures (codes " skipped") refl (omega arith),
)
