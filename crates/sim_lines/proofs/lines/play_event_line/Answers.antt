use Rattle.std.proofs.Common.{◌∙◌}
use Rattle.sim_lines.proofs.Faults.{begun_fault, early_fault, event_fault}
use Rattle.sim_lines.proofs.lines.play_event_line.Goals as goal

pub returns-then-not-is_begun-clause-fault : goal.returns-then-not-is_begun-clause-fault
returns-then-not-is_begun-clause-fault c =
    event_fault c.args.line c.args.script.now.acted c.args.script.now.progress c.requires.event
    ∙ early_fault c.args.script.now.progress (c.is_begun.ensures.nothing c.if-not-is_begun.true)

pub returns-clause-fault : goal.returns-clause-fault
returns-clause-fault c =
    event_fault c.args.line c.args.script.now.acted c.args.script.now.progress c.requires.event
    ∙ begun_fault c.args.script.now.progress (c.is_begun.ensures.begun c.if-not-is_begun.false)
