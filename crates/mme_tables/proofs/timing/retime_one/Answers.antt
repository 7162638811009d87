use Rattle.std.proofs.Common.{sym, ◌∙◌}
use Rattle.mme_tables.specs.SlotLaws.{retimed_same, same_left}
use Rattle.mme_tables.proofs.timing.retime_one.Goals as goal

pub returns-then-eq-clause-running : goal.returns-then-eq-clause-running
returns-then-eq-clause-running c =
    let same = same_left c.args.before c.args.left (sym c.if-eq.ensures) in
    sym
    (retimed_same c.args.slot c.args.kind c.args.left c.args.timers.now.running (c.requires.known ∙ same))
