use Rattle.std.proofs.Common.{ap, refl, subst, sym, ◌∙◌}
use Rattle.trace_words.specs.declared.line.Line.{Line}
use Rattle.trace_words.specs.Kept.{kept_line}
use Rattle.sim_printing.specs.Printed.{Prints}
use Rattle.sim_printing.specs.PrintLaws.{Prints-none}
use Rattle.sim_lines.specs.Faults.{fault_of_line}
use Rattle.sim_lines.proofs.Faults.{skip_fault}
use Rattle.sim_lines.specs.Plays.{PlaysLine}
use Rattle.sim_lines.specs.Turns.{scene_of}
use Rattle.sim_lines.proofs.lines.play_trace_line.Goals as goal

pub returns-in-Skip-clause-fault : goal.returns-in-Skip-clause-fault
returns-in-Skip-clause-fault c =
    ap (λ (v : Line). fault_of_line c.args.script.now.acted c.args.script.now.progress v) c.in-Skip.is
    ∙ skip_fault c.args.script.now.acted c.args.script.now.progress

pub returns-in-Skip-clause-printed : goal.returns-in-Skip-clause-printed
returns-in-Skip-clause-printed c =
    let progress = c.args.script.now.progress in
    let out = c.args.out.now.items in
    subst (λ (v : Line). Prints progress out progress out (kept_line v)) (sym c.in-Skip.is) (Prints-none progress out)

pub returns-in-Skip-clause-plays : goal.returns-in-Skip-clause-plays
returns-in-Skip-clause-plays c =
    let old = scene_of c.args.script.now c.args.out.now.items in
    subst (λ (v : Line). PlaysLine v c.args.text.now old old) (sym c.in-Skip.is) refl
