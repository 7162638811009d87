use Rattle.std.proofs.Common.{◌∙◌}
use Rattle.trace_words.specs.declared.line.Line.TheVariants.{Sub}
use Rattle.trace_progress.specs.Effects.{subscriber_added}
use Rattle.sim_printing.proofs.Played.{sub_effect, Prints-provisioned, PrintsLine-fault, PrintsLine-unprinted}
use Rattle.sim_printing.proofs.lines.play_sub.Goals as goal

pub returns-in-Err-clause-printed : goal.returns-in-Err-clause-printed
returns-in-Err-clause-printed c =
    PrintsLine-fault c.args.number (Sub c.args.profile)
    (subscriber_added c.args.progress.now c.args.profile) c.args.progress.now c.add.new.progress c.args.out.now.items c.in-Err.fault
    (sub_effect c.args.progress.now c.args.profile) c.in-Err.ensures.acts c.in-Err.ensures.err c.in-Err.ensures.write
    c.in-Err.ensures.fault

pub returns-in-Ok-push_line-clause-printed : goal.returns-in-Ok-push_line-clause-printed
returns-in-Ok-push_line-clause-printed c =
    let line = Sub c.args.profile in
    let effect = sub_effect c.args.progress.now c.args.profile ∙ c.in-Ok.ensures.acts in (
      effect,
      Prints-provisioned c.first_word_tells.ensures c.args.progress.now c.add.new.progress c.args.out.now.items
          c.push_line.new.out.items c.args.text.now line c.requires (λ s. cc s) effect c.in-Ok-push_line.ensures.added,
    )

pub returns-in-Err-push_line-clause-printed : goal.returns-in-Err-push_line-clause-printed
returns-in-Err-push_line-clause-printed c =
    PrintsLine-unprinted c.args.number (Sub c.args.profile) c.args.progress.now c.add.new.progress c.args.out.now.items c.push_line.new.out.items
    (sub_effect c.args.progress.now c.args.profile ∙ c.in-Ok.ensures.acts) c.in-Err-push_line.ensures.err
