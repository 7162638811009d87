use Rattle.std.proofs.Common.{ap, ◌∙◌, Some, None}
use Rattle.std.specs.Prelude.{if◌then◌else◌}
use Rattle.trace_words.specs.declared.fault.TraceFault.TheVariants.{Provision}
use Rattle.sim_lines.proofs.Faults.{early_show, show_fault}
use Rattle.sim_lines.proofs.Playing.{showing-is}
use Rattle.sim_lines.proofs.lines.answer_question.Goals as goal

pub returns-then-not-is_begun-clause-fault : goal.returns-then-not-is_begun-clause-fault
returns-then-not-is_begun-clause-fault c =
    early_show c.args.script.now.acted c.args.script.now.progress c.args.imsi (c.is_begun.ensures.nothing c.if-not-is_begun.true)

pub returns-in-Ok-false-clause-fault : goal.returns-in-Ok-false-clause-fault
returns-in-Ok-false-clause-fault c =
    show_fault c.args.script.now.acted c.args.script.now.progress c.args.imsi c.in-Ok-false.field-0
    (c.is_begun.ensures.begun c.if-not-is_begun.false) c.in-Ok-false.ensures.known
    ∙ ap (λ b. if b then None else Some Provision) c.in-Ok-false.field-0-test

pub returns-clause-fault : goal.returns-clause-fault
returns-clause-fault c =
    show_fault c.args.script.now.acted c.args.script.now.progress c.args.imsi c.in-Ok-true.field-0
    (c.is_begun.ensures.begun c.if-not-is_begun.false) c.in-Ok-true.ensures.known
    ∙ ap (λ b. if b then None else Some Provision) c.in-Ok-true.field-0-test

pub returns-clause-plays : goal.returns-clause-plays
returns-clause-plays c =
    let old = c.args.script.now in
    showing-is c.args.imsi c.args.text.now old.progress c.play_show.new.progress old.crowd c.args.out.now.items c.play_show.new.out.items
    (c.is_begun.ensures.begun c.if-not-is_begun.false) (c.in-Ok-true.ensures.shown c.in-Ok-true.field-0-test)
    (c.in-Ok-true.ensures.after c.in-Ok-true.field-0-test)
