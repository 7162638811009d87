use Rattle.std.proofs.Common.{List, Result, subst, sym}
use Rattle.trace_words.specs.declared.line.Line.{Line}
use Rattle.trace_words.specs.declared.fault.TraceFault.{TraceFault}
use Rattle.sim_printing.specs.Printed.{PrintsScriptLine}
use Rattle.sim_printing.specs.PrintLaws.{kept_in-read}
use Rattle.trace_words.specs.declared.script_line.ScriptLine.TheVariants as said
use Rattle.sim_lines.specs.Turns.{scene_of}
use Rattle.sim_lines.proofs.Playing.{PlaysText-as}
use Rattle.sim_lines.proofs.script.play_script_line.Goals as goal

pub returns-in-Ok-Trace-clause-printed : goal.returns-in-Ok-Trace-clause-printed
returns-in-Ok-Trace-clause-printed c =
    let done = c.play_trace_line in
    let read = rw c.in-Ok-Trace.field-0-is at c.in-Ok-Trace.ensures.says in
    subst (λ (kept : List (Result Line TraceFault)). PrintsScriptLine c.args.number kept c.args.script.now.progress c.args.out.now.items
    done.result done.new.script.progress done.new.out.items)
    (sym (kept_in-read c.first_word_tells.ensures c.args.text.now c.in-Ok-Trace.line read)) done.ensures.printed

pub returns-in-Ok-Trace-clause-plays : goal.returns-in-Ok-Trace-clause-plays
returns-in-Ok-Trace-clause-plays c =
    let done = c.play_trace_line in
    PlaysText-as done.result (said.Trace c.in-Ok-Trace.line) c.args.text.now (scene_of c.args.script.now c.args.out.now.items)
    (scene_of done.new.script done.new.out.items) (rw c.in-Ok-Trace.field-0-is at c.in-Ok-Trace.ensures.line) done.ensures.plays

pub returns-in-Ok-Act-clause-plays : goal.returns-in-Ok-Act-clause-plays
returns-in-Ok-Act-clause-plays c =
    let done = c.play_act_line in
    PlaysText-as done.result (said.Act c.in-Ok-Act.act) c.args.text.now (scene_of c.args.script.now c.args.out.now.items)
    (scene_of done.new.script done.new.out.items) (rw c.in-Ok-Act.field-0-is at c.in-Ok-Act.ensures.line) done.ensures.plays
