use Rattle.sim_printing.proofs.Played.{Prints-played}
use Rattle.std.proofs.Common.{◌++◌, ap, ◌∙◌}
use Rattle.mme_core.specs.World.{reply}
use Rattle.sim_printing.specs.Shown.{reply_comments}
use Rattle.sim_printing.proofs.events.print_event.Goals as goal

pub returns-in-Ok-clause-printed : goal.returns-in-Ok-clause-printed
returns-in-Ok-clause-printed c =
    Prints-played c.first_word_tells.ensures c.args.mme.now c.print_reply.new.mme c.args.event.now c.args.out.now.items
    c.push_line.new.out.items c.print_reply.new.out.items c.args.text.now c.requires c.in-Ok.ensures.after
    c.in_ok-push_line.ensures.added c.in-Ok.ensures.told

pub returns-in-Ok-clause-shown : goal.returns-in-Ok-clause-shown
returns-in-Ok-clause-shown c =
    c.in-Ok.ensures.appended ∙ ap (λ v. v ++ reply_comments (reply c.args.mme.now c.args.event.now)) c.in_ok-push_line.ensures.added
